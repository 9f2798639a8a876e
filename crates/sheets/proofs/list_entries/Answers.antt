-- `sheets::list_entries` meets its contract: the table holds the file's entries, and the cascade's room is enough for six lines. Assumes nothing.
use Rattle.std.proofs.Common.{arith}
use Rattle.card.proofs.Cards.{lines_are}
use Rattle.synthesis.proofs.Synthesis.{bound_most}
use Rattle.sheets.proofs.list_entries.Goals as goal

pub list_table-requires : goal.list_table-requires
list_table-requires c =
    let w = c.requires in
    (w.0, c.read_entries.ensures, omega (arith, bound_most _ (lines_are _ w.0.lines).1, w.2))
