use Rattle.std.proofs.Common.{◌≡◌, List, ℕ, ◌+◌, ◌-◌, ◌*◌, ◌≤◌}
use Rattle.ranges.specs.Ranges.{span}
use Rattle.gates.specs.Records.{is_record}
use Rattle.cascades.specs.Cascades.{records, gate_in}
use Rattle.cascades.proofs.Answers.{Passing}
use Rattle.pricing.specs.Prices.{cascade_price}
use Rattle.pricing.proofs.Points.{Rates}
use Rattle.pricing.proofs.price_on.Given as goal

-- the loop has come to record i
pub record Going (n v s : ℕ) (b points prices extras : List ℕ) (cost i : ℕ) : Type 0 where
  pub rates : Rates v s points prices extras
  pub passing : Passing is_record n b (records b) i
  pub small : cost ≤ 86 * i
  pub value : cost + cascade_price v s (span (gate_in b) i (records b - i)) ≡ cascade_price v s (span (gate_in b) 0 (records b))

abbrev pub invariant-loop-i : goal.invariant-loop-i
invariant-loop-i l =
    Going l.lines l.value l.fitted l.cascade l.points l.prices l.extras l.cost l.i
