use Rattle.std.proofs.Common.{ℕ}
use Rattle.ranges.specs.Ranges.{every}
use Rattle.digits.specs.Digits.{digit}
use Rattle.gates.specs.Gates.{holds}
use Rattle.tabulating.specs.Inner.Planes.{Shows, PlaneHas}
use Rattle.tabulating.proofs.planes.find_firing.Given as goal

-- the lines below k are content
abbrev pub invariant-loop-k : goal.invariant-loop-k
invariant-loop-k l = (n : ℕ) (f : ℕ → ℕ) → Shows n l.planes f → PlaneHas n l.firing (λ p. every (λ i. holds (digit 4 i l.controls) (digit 3 i (f p))) 0 l.k)
