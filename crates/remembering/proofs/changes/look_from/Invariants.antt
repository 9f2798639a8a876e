use Rattle.remembering.specs.Inner.LentBuffers.{held}
use Rattle.remembering.specs.Inner.GateChanges.{LookedAgain}
use Rattle.remembering.proofs.changes.look_from.Given as goal

abbrev pub invariant-loop-r : goal.invariant-loop-r
invariant-loop-r l =
    LookedAgain (held l.buffer) l.change l.initial.far l.far l.x l.r l.low
