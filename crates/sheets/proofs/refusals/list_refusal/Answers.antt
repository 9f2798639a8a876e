-- `sheets::refusals::list_refusal` meets its contract: the line where it fits the room, and else 5. Assumes nothing.
use Rattle.std.proofs.Common.{◌≡◌, ◌+◌, length}
use Rattle.card.proofs.Exits.{exit_both}
use Rattle.sheets.specs.Sheets.{sheet_text, sheet_room}
use Rattle.sheets.proofs.SheetAnswers.{refusal_length, sheet_small, sheet_written}
use Rattle.sheets.proofs.refusals.list_refusal.Goals as goal
use Rattle.sheets.proofs.refusals.list_refusal.Goals.{After-size_decimal-p}

module _ (c : After-size_decimal-p) where
  size : 13 + c.size_decimal-k.result + c.size_decimal-p.result ≡ length (sheet_text c.args.file.now)
  size = rw (c.size_decimal-k.ensures.digits, c.number.ensures, c.size_decimal-p.ensures.digits, c.place.ensures) (refusal_length c.args.file.now _ _ c.requires)

pub returns-in_err-check_room : goal.returns-in_err-check_room
unfolding sheet_room
returns-in_err-check_room c =
    let short = c.in_err-check_room.ensures in
    exit_both _ _ _ short.1 _ c.from_residual.ensures.1 _ _ _ (sheet_small _ _ _ (size (goal.at.returns-in_err-check_room c).After-size_decimal-p) short.0)

pub write_refusal-requires : goal.write_refusal-requires
write_refusal-requires c =
    (c.requires, rw (size (goal.at.write_refusal-requires c).After-size_decimal-p) at c.in_ok-check_room.ensures)

pub returns : goal.returns
returns c = sheet_written _ _ _ (size (goal.at.returns c).After-size_decimal-p) c.in_ok-check_room.ensures _ c.write_refusal.ensures
