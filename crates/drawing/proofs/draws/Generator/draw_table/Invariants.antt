-- What the draws so far have exchanged is the identity in another order.
use Rattle.std.proofs.Common.{length, IsPermutation}
use Rattle.std.specs.List.{range_with_len}
use Rattle.drawing.proofs.draws.Generator.draw_table.Given as goal

abbrev pub invariant-loop-last : goal.invariant-loop-last
invariant-loop-last l = IsPermutation (range_with_len 0 (length l.fn.table)) l.table
