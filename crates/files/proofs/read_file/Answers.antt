-- `files::read_file` meets its contract: each return is a case of `read_answer`. Assumes nothing.
use Rattle.std.proofs.Common.{◌≤◌, ◌/◌, refl, sym, ◌∙◌, length, arith, length-take-le}
use Rattle.card.proofs.Cards.{sets_laid}
use Rattle.files.specs.Files.{count, start_of, read_answer}
use Rattle.files.proofs.Frames.{length_note, length_records}
use Rattle.files.proofs.Openings.{OpensAt, opening_refused, opens_at}
use Rattle.files.proofs.Transfers.{read_exit, read_records_small, read_note_small, read_done}
use Rattle.files.proofs.read_file.Goals as goal
use Rattle.files.proofs.read_file.Goals.{In_ok-lines}

-- what opening has found
module _ (c : In_ok-lines) where
  opened : OpensAt 8 1 c.args.file.now c.in_ok-lines.field-0.lines c.in_ok-lines.field-0.at c.in_ok-lines.field-0.end
  opened = opens_at _ _ _ _ _ _ (sym c.in_ok-lines.ensures)

pub returns-in_err-lines : goal.returns-in_err-lines
unfolding read_answer
returns-in_err-lines c = read_exit _ _ _ _ _ refl _ c.from_residual.ensures.1 (opening_refused _ _ _ _ _ (sym c.in_err-lines.ensures) _)

pub overflow_sub-gates : goal.overflow_sub-gates
overflow_sub-gates c = (opened c).ordered

pub returns-in_err-check_room : goal.returns-in_err-check_room
returns-in_err-check_room c =
    let o = opened (goal.at.returns-in_err-check_room c).In_ok-lines in
    let small = rw o.gates at c.in_err-check_room.ensures in
    read_exit _ _ _ _ _ small.1 _ c.from_residual-in_err-check_room.ensures.1 (read_records_small _ _ _ o.framed_right o.whole small.0)

pub returns-in_err-check_room-2 : goal.returns-in_err-check_room-2
returns-in_err-check_room-2 c =
    let o = opened (goal.at.returns-in_err-check_room-2 c).In_ok-lines in
    let small = rw o.first at c.in_err-check_room-2.ensures in
    read_exit _ _ _ _ _ small.1 _ c.from_residual-in_err-check_room-2.ensures.1
    (read_note_small _ _ _ o.framed_right o.whole (rw o.gates at c.in_ok-check_room.ensures) small.0)

pub slice_bounds-copy_bytes-count : goal.slice_bounds-copy_bytes-count
slice_bounds-copy_bytes-count c = (opened (goal.at.slice_bounds-copy_bytes-count c).In_ok-lines).ordered

pub slice_bounds-copy_bytes-start : goal.slice_bounds-copy_bytes-start
slice_bounds-copy_bytes-start c = (opened (goal.at.slice_bounds-copy_bytes-start c).In_ok-lines).ordered

pub slice_bounds-copy_bytes-end : goal.slice_bounds-copy_bytes-end
slice_bounds-copy_bytes-end c = (opened (goal.at.slice_bounds-copy_bytes-end c).In_ok-lines).inside

pub copy_bytes-requires : goal.copy_bytes-requires
copy_bytes-requires c =
    let o = opened (goal.at.copy_bytes-requires c).In_ok-lines in
    let r = o.framed_right in
    rw (o.the_records, length_records _ _ _ r) (omega (arith, o.gates, r.eight, c.in_ok-check_room.ensures))

pub slice_bounds-copy_bytes-end-2 : goal.slice_bounds-copy_bytes-end-2
slice_bounds-copy_bytes-end-2 c =
    let o = opened (goal.at.slice_bounds-copy_bytes-end-2 c).In_ok-lines in
    sym (length-take-le _ _ (omega (arith, o.ordered, o.inside)))

pub returns : goal.returns
returns c =
    let o = opened (goal.at.returns c).In_ok-lines in
    let r = o.framed_right in
    let a = c.args in
    let fits : count a.file.now ≤ length a.records.now / 8 = rw o.gates at c.in_ok-check_room.ensures in
    let fits' : start_of 8 a.file.now ≤ length a.note.now = rw o.first at c.in_ok-check_room-2.ensures in
    rw (o.gates, o.first, o.lines)
    (read_done a.file.now a.records.now a.note.now r o.whole fits fits' _ _
    (c.copy_bytes.ensures ∙ rw o.the_records (sets_laid _ _ (rw (length_records _ _ _ r) (omega (arith, r.eight)))))
    (c.copy_bytes-2.ensures ∙ rw o.the_note (sets_laid _ _ (rw (length_note _ _ _ r) fits'))))
