-- Gates: what an operator does, when a gate fires, what it makes of a pattern, and its inverse.
use Rattle.std.specs.Prelude.{ℕ, ◌+◌, ◌-◌, ◌*◌, ◌%◌, ◌^◌, ◌≤◌, ◌<◌, ◌≡◌, Bool, cond, ◌||◌, eqb, ltb}
use Rattle.ranges.specs.Ranges.{every, sum}
use Rattle.digits.specs.Digits.{digit, put}
use Rattle.gates.specs.declared.Gate.{Gate}

-- Operators C1 C2 N D E are 1 to 5. C1 and C2 add 1 and 2; N, D and E are 2 x + 2, 2 x and 2 x + 1; all modulo 3.
-- `Operators.printed` shows that this is document 01's table.
unfoldable pub act : ℕ → ℕ → ℕ
act o x = cond (ltb o 3) ((x + o) % 3) ((2 * x + o + 2) % 3)

-- C1 and C2 invert each other; N, D and E invert themselves
unfoldable pub inverse_op : ℕ → ℕ
inverse_op o = cond (ltb o 3) (3 - o) o

-- the control on line k: its value, or 3 for none. They are packed in base 4, a digit for each of x0 to x5
abbrev pub control : Gate → ℕ → ℕ
control g k = digit 4 k g.controls

-- how many controls a gate has
unfoldable pub control_count : Gate → ℕ
control_count g = sum (λ k. cond (eqb (control g k) 3) 0 1) 0 6

-- a control c is content with a line that holds x
unfoldable pub holds : ℕ → ℕ → Bool
holds c x = eqb c 3 || eqb c x

-- every control line of a pattern in radix r holds its value
unfoldable pub fires_on : ℕ → ℕ → ℕ → Bool
fires_on r controls p = every (λ k. holds (digit 4 k controls) (digit r k p)) 0 6

-- the pattern after a gate: where it fires, the digit of its target becomes what f makes of it
unfoldable pub changed : ℕ → (ℕ → ℕ) → Gate → ℕ → ℕ
changed r f g p = cond (fires_on r g.controls p) (put r g.target p (f (digit r g.target p))) p

-- a ternary pattern after the gate
unfoldable pub applied : Gate → ℕ → ℕ
applied g p = changed 3 (act g.operator) g p

unfoldable pub inverse : Gate → Gate
inverse g = record { operator = inverse_op g.operator; target = g.target; controls = g.controls }

-- g is a gate on n lines: no control stands on its target, nor on a line from n up
pub record IsGate (n : ℕ) (g : Gate) : Type 0 where
  pub op_low : 1 ≤ g.operator
  pub op_high : g.operator ≤ 5
  pub on_line : g.target < n
  pub own : control g g.target ≡ 3
  pub beyond : (k : ℕ) → n ≤ k → k < 6 → control g k ≡ 3
  pub packed : g.controls < 4 ^ 6
