use Rattle.ranges.proofs.Stores.{Storing}
use Rattle.files.proofs.stores.copy_bytes.Given as goal

abbrev pub invariant-loop-k : goal.invariant-loop-k
invariant-loop-k l = Storing l.bytes l.initial.room l.at l.room l.k
