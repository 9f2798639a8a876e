use Rattle.std.proofs.Common.{◌*◌}
use Rattle.remembering.specs.Inner.LentBuffers.{held}
use Rattle.remembering.specs.Inner.GateChanges.{Looked}
use Rattle.remembering.specs.Inner.Memories.{ReachKept}
use Rattle.remembering.proofs.memory.Memory.look_stretches.Given as goal

abbrev pub invariant-loop-s : goal.invariant-loop-s
invariant-loop-s g l =
    Looked (held l.buffer) l.change l.initial.self l.self (16 * l.x) (16 * l.s) l.low × ReachKept l.initial.self l.self
