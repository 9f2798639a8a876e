use Rattle.texts.proofs.Appends.{Going}
use Rattle.texts.proofs.laying.put_controls.Given as goal

abbrev pub invariant-loop-k : goal.invariant-loop-k
invariant-loop-k l =
    Going l.w l.initial.line l.at l.line l.rest l.to l.k
