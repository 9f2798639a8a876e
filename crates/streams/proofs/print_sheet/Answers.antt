-- `streams::print_sheet` meets its contract: the text is that of the bytes read. Assumes nothing.
use Rattle.std.proofs.Common.{rules}
use Rattle.sheets.specs.Sheets.{sheet_text}
use Rattle.streams.proofs.FirstBytes.{made_of_first, whole_text}
use Rattle.streams.proofs.print_sheet.Goals as goal

pub returns : goal.returns
returns g c =
    whole_text _ _ _ _ (made_of_first _ sheet_text _ _ _ _ c.read_full.new.bytes _ c.in_ok-n.n 1460 (search rules) (search rules) c.in_ok-n.ensures.read (λ less. c.in_ok-n.ensures.end (search rules)) c.write_sheet-m.ensures.room_after c.write_all.ensures.bytes)
