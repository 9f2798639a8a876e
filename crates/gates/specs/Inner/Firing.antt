-- When a gate fires on a ternary pattern.
use Rattle.std.specs.Prelude.{ℕ, Bool}
use Rattle.gates.specs.Gates.{fires_on}
use Rattle.gates.specs.declared.Gate.{Gate}

abbrev pub fires : Gate → ℕ → Bool
fires g p = fires_on 3 g.controls p
