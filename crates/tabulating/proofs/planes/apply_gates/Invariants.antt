use Rattle.std.proofs.Common.{ℕ}
use Rattle.ranges.specs.Ranges.{span}
use Rattle.cascades.specs.Cascades.{gate_in, ran}
use Rattle.tabulating.specs.Inner.Planes.{Shows}
use Rattle.tabulating.proofs.planes.apply_gates.Given as goal

abbrev pub invariant-loop-i : goal.invariant-loop-i
invariant-loop-i l = (n : ℕ) (f : ℕ → ℕ) → Shows n l.initial.planes f → Shows n l.planes (λ p. ran (span (gate_in l.cascade) 0 l.i) (f p))
