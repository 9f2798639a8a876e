-- `tabulating::whole::write_table` meets its contract: planes that show what the gates make of each input have the table. Assumes nothing.
use Rattle.std.proofs.Common.{◌∙◌, ◌≤◌, length, arith}
use Rattle.card.proofs.Cards.{lines_are}
use Rattle.digits.proofs.Sizes.{patterns_most}
use Rattle.cascades.proofs.Cascades.{gates_good}
use Rattle.tabulating.proofs.ShownPlanes.{shown_table}
use Rattle.tabulating.proofs.whole.write_table.Goals as goal
use Rattle.tabulating.proofs.whole.write_table.Goals.{Start}

-- a table has at most 729 entries
module _ (c : Start) where
  most : length c.args.table.now ≤ 729
  most = omega (arith, c.requires.table_len, patterns_most _ (lines_are _ c.requires.whole.lines).1)

pub overflow_cast-table : goal.overflow_cast-table
overflow_cast-table c = omega (arith, most (goal.at.overflow_cast-table c).Start)

pub lay_inputs-requires : goal.lay_inputs-requires
lay_inputs-requires c = most (goal.at.lay_inputs-requires c).Start

pub returns : goal.returns
returns c =
    let whole = c.requires.whole in
    c.write_entries.ensures
    ∙ rw c.requires.table_len (shown_table _ _ _ (lines_are _ whole.lines).1 (gates_good _ _ _ whole) (rw c.requires.table_len at (c.apply_gates.ensures _ _ c.lay_inputs.ensures)))
