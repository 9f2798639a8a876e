-- `sheets::write_sheet` meets its contract: its room is never refused, and the text stands at its start. Assumes nothing.
use Rattle.std.proofs.Common.{sym, ap, ◌∙◌}
use Rattle.card.specs.Answers.{number_as}
use Rattle.sheets.proofs.Bounds.{sheet_taken, sheet_first}
use Rattle.sheets.proofs.write_sheet.Goals as goal

pub unwrap-requires : goal.unwrap-requires
unwrap-requires c = sheet_taken c.args.file.now c.args.room.now c.told-room _ c.sheet.ensures.answer

pub returns : goal.returns
returns c =
    let w = sheet_first c.args.file.now c.args.room.now c.told-room _ (ap number_as (sym c.unwrap.ensures) ∙ c.sheet.ensures.answer) _ c.sheet.ensures.room_after in
    record { room_after = w.0; within = w.1 }
