use Rattle.remembering.specs.Inner.Rows.{NoPairBefore}
use Rattle.remembering.proofs.memory.Memory.next_row.Given as goal

abbrev pub invariant-loop-r : goal.invariant-loop-r
invariant-loop-r g l = NoPairBefore l.self.far l.r
