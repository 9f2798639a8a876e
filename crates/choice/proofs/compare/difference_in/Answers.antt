-- `choice::compare::difference_in` meets its contract: both tables are written, and compared entry by entry. Assumes nothing.
use Rattle.std.proofs.Common.{◌∙◌}
use Rattle.choice.proofs.Choices.{first_unlike_lem}
use Rattle.choice.proofs.compare.difference_in.Goals as goal

pub returns : goal.returns
returns c = c.first_unlike.ensures ∙ rw (c.write_table.ensures, c.write_table-2.ensures) (first_unlike_lem _ _ _)
