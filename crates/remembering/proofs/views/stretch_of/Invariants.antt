use Rattle.remembering.specs.Inner.LentBuffers.{held}
use Rattle.remembering.specs.Inner.Views.{StretchPassed}
use Rattle.remembering.proofs.views.stretch_of.Given as goal

abbrev pub invariant-loop-k : goal.invariant-loop-k
invariant-loop-k l =
    StretchPassed (held l.buffer) l.x l.k (record { types = l.types; kinds = l.kinds })
