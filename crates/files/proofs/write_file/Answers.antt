-- `files::write_file` meets its contract: each return is a case of `write_answer`. Assumes nothing.
use Rattle.std.proofs.Common.{refl, sym, ◌∙◌, arith}
use Rattle.card.proofs.Cards.{refused_both, accepted_both, sets_laid}
use Rattle.card.proofs.Exits.{exit_both}
use Rattle.cascades.specs.Cascades.{records}
use Rattle.cascades.specs.Inner.Checked.{Whole}
use Rattle.cascades.proofs.Checks.{check_whole, check_refused}
use Rattle.files.specs.Files.{file_size, write_answer, write_room}
use Rattle.files.proofs.Frames.{length_file}
use Rattle.files.proofs.Transfers.{write_note_long, write_room_small, write_accepted}
use Rattle.files.proofs.write_file.Goals as goal
use Rattle.files.proofs.write_file.Goals.{In_ok-check_cascade}

-- what checking has found
module _ (c : In_ok-check_cascade) where
  whole : Whole c.args.lines c.args.cascade.now (records c.args.cascade.now)
  whole = check_whole _ _ _ (sym c.in_ok-check_cascade.ensures)

pub returns-in_err-check_cascade : goal.returns-in_err-check_cascade
unfolding write_answer write_room
returns-in_err-check_cascade c = exit_both _ _ _ refl _ c.from_residual.ensures.1 _ _ _ (check_refused _ _ _ _ _ (sym c.in_err-check_cascade.ensures))

pub returns-then-note-gt1024 : goal.returns-then-note-gt1024
unfolding write_room
returns-then-note-gt1024 c = refused_both _ _ _ _ _ (write_note_long _ _ _ _ (whole (goal.at.returns-then-note-gt1024 c).In_ok-check_cascade) (omega (arith, c.if-note-gt1024.true)))

pub returns-in_err-check_room : goal.returns-in_err-check_room
unfolding write_room file_size
returns-in_err-check_room c =
    let e = c.in_err-check_room.ensures in
    exit_both _ _ _ e.1 _ c.from_residual-in_err-check_room.ensures.1 _ _ _ (write_room_small _ _ _ _ (whole (goal.at.returns-in_err-check_room c).In_ok-check_cascade) c.if-note-gt1024.false e.0)

pub write_parts-requires : goal.write_parts-requires
unfolding file_size
write_parts-requires c = let w = whole (goal.at.write_parts-requires c).In_ok-check_cascade in (omega (arith, w.size, w.most), c.in_ok-check_room.ensures)

pub returns : goal.returns
unfolding write_room file_size
returns c =
    let fits = c.in_ok-check_room.ensures in
    accepted_both _ _ _ _ _ (write_accepted _ _ _ _ (whole (goal.at.returns c).In_ok-check_cascade) c.if-note-gt1024.false fits)
    (c.write_parts.ensures ∙ sets_laid _ _ (rw (length_file _ _ _) fits))
