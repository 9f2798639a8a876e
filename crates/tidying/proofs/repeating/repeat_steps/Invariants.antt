use Rattle.std.proofs.Common.{◌-◌}
use Rattle.cascades.specs.Cascades.{gates_of}
use Rattle.remembering.specs.Inner.LentBuffers.{SameRecords}
use Rattle.rules.specs.Tidying.{gates_and_controls}
use Rattle.tidying.proofs.Repetitions.{Stepping}
use Rattle.tidying.proofs.repeating.repeat_steps.Given as goal

abbrev pub invariant-loop-pair : goal.invariant-loop-pair
invariant-loop-pair g l = SameRecords l.initial.buffer l.buffer × Stepping (gates_of l.initial.buffer.bytes.now) l.buffer l.memory l.from l.steps

abbrev pub decreases-loop-pair : goal.decreases-loop-pair
decreases-loop-pair g l = gates_and_controls (gates_of l.initial.buffer.bytes.now) - l.steps
