use Rattle.std.proofs.Common.{◌*◌}
use Rattle.remembering.specs.Inner.LentBuffers.{held}
use Rattle.remembering.specs.Inner.GateChanges.{Looked}
use Rattle.remembering.specs.Inner.Memories.{ReachKept}
use Rattle.remembering.proofs.memory.Memory.settle_rows.Given as goal

abbrev pub invariant-loop-x : goal.invariant-loop-x
invariant-loop-x g l =
    Looked (held l.buffer) l.change l.initial.self l.self 0 (256 * l.x) l.low × ReachKept l.initial.self l.self
