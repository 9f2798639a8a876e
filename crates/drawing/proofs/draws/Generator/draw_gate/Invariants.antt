use Rattle.std.proofs.Common.{◌≡◌, slice_index, length}
use Rattle.drawing.proofs.draws.Generator.draw_gate.Given as goal

abbrev pub invariant-loop-k : goal.invariant-loop-k
invariant-loop-k l = (length l.record ≡ 8) × (slice_index l.record 1 ≡ l.target)
