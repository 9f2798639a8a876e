use Rattle.gates.specs.Records.{is_record}
use Rattle.cascades.proofs.Answers.{Passing}
use Rattle.files.proofs.frame.gates_between.Given as goal

abbrev pub invariant-loop-i : goal.invariant-loop-i
invariant-loop-i l =
    Passing is_record l.lines l.records l.i-end l.i
