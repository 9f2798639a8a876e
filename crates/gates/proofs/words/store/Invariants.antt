use Rattle.std.specs.Int.{w64, to_le_bytes}
use Rattle.ranges.proofs.Stores.{Storing}
use Rattle.gates.proofs.words.store.Given as goal

abbrev pub invariant-loop-k : goal.invariant-loop-k
invariant-loop-k l = Storing (to_le_bytes w64 l.w) l.initial.out l.at l.out l.k
