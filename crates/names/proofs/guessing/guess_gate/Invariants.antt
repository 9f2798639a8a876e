use Rattle.names.proofs.GuessTurns.{Guessing}
use Rattle.names.proofs.guessing.guess_gate.Given as goal

abbrev pub invariant-loop-k : goal.invariant-loop-k
invariant-loop-k l =
    Guessing l.line l.e l.weight l.controls l.k
