use Rattle.gates.specs.Records.{is_record}
use Rattle.cascades.proofs.Answers.{Passing}
use Rattle.cascades.proofs.scan.first_bad.Given as goal

abbrev pub invariant-loop-i : goal.invariant-loop-i
invariant-loop-i l = Passing is_record l.lines l.cascade l.i-end l.i
