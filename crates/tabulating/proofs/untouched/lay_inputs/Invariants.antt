use Rattle.tabulating.specs.Inner.Planes.{ShownUpTo}
use Rattle.tabulating.proofs.UntouchedPlanes.{BareUpTo}
use Rattle.tabulating.proofs.untouched.lay_inputs.Given as goal

abbrev pub invariant-loop-line : goal.invariant-loop-line
invariant-loop-line l = BareUpTo l.planes l.line-index

abbrev pub invariant-loop-p : goal.invariant-loop-p
invariant-loop-p l = ShownUpTo l.planes l.p
