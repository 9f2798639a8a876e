use Rattle.remembering.specs.Inner.Buffers.{gates_in}
use Rattle.remembering.proofs.Buffers.{Closing}
use Rattle.remembering.proofs.buffer.close_gaps.Given as goal

abbrev pub invariant-loop-p : goal.invariant-loop-p
invariant-loop-p l =
    Closing (gates_in l.initial.b l.m) l.initial.b l.b l.p l.q
