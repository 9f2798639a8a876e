use Rattle.std.proofs.Common.{◌≡◌, List, ℕ, ◌^◌, ◌<◌}
use Rattle.ranges.specs.Ranges.{span}
use Rattle.gates.specs.Records.{is_record}
use Rattle.gates.specs.Inner.Quads.{quad}
use Rattle.cascades.specs.Cascades.{gate_in, ran}
use Rattle.cascades.proofs.Answers.{Passing}
use Rattle.cascades.proofs.run_on.Given as goal

pub record Going (n : ℕ) (b : List ℕ) (p m q i : ℕ) : Type 0 where
  pub passing : Passing is_record n b m i
  pub lines : q ≡ quad (ran (span (gate_in b) 0 i) p)
  pub below : ran (span (gate_in b) 0 i) p < 3 ^ n

abbrev pub invariant-loop-i : goal.invariant-loop-i
invariant-loop-i l = Going l.lines l.cascade l.pattern l.i-end l.q l.i
