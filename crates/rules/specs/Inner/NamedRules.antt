-- The rule that fits a pair of gates, by name; none is none.
use Rattle.std.specs.Prelude.{ℕ, cond, ◌&&◌, eqb, Option, Some, None}
use Rattle.gates.specs.declared.Gate.{Gate}
use Rattle.gates.specs.Gates.{inverse_op}
use Rattle.rules.specs.declared.fitting.Rule.{Rule}
use Rattle.rules.specs.Places.{is_c}
use Rattle.rules.specs.Rules.{cancels, merges, reduces}

-- the rule that fits
unfoldable pub rule_for : Gate → Gate → Option Rule
rule_for g h = cond (cancels g h) (Some Rule.Cancel) (cond (merges g h) (Some Rule.Merge) (cond (reduces g h) (Some Rule.Reduce) None))

-- the same of two gates with equal target and equal set of control lines, by their operators and the number of lines on which their controls differ
unfoldable pub rule_by : ℕ → ℕ → ℕ → Option Rule
rule_by a b apart =
    cond (eqb apart 0 && eqb b (inverse_op a)) (Some Rule.Cancel)
    (cond (eqb apart 0 && is_c a && eqb a b) (Some Rule.Merge)
    (cond (eqb apart 1 && eqb a b) (Some Rule.Reduce) None))
