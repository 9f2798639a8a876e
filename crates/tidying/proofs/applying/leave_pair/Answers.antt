-- `tidying::applying::leave_pair` meets its contract: control reduction is asked for where it is the rule that fits. Assumes nothing.
use Rattle.std.proofs.Common.{sym}
use Rattle.rules.proofs.FittingPairs.{chosen_reduces}
use Rattle.rules.proofs.PairWords.{packed}
use Rattle.tidying.proofs.applying.leave_pair.Goals as goal

pub reduce_pair-requires : goal.reduce_pair-requires
reduce_pair-requires c =
    rw (c.gate_of-first.ensures, c.gate_of-second.ensures)
    (chosen_reduces _ _ (sym (rw c.in-Some-Reduce.field-0-is at c.in-Some-Reduce.ensures)), packed _ c.requires.0, packed _ c.requires.1)
