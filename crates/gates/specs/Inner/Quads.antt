-- The lines of a pattern as digits in base 4, beside which a gate's packed controls are looked at all at once.
use Rattle.std.specs.Prelude.{ℕ, ◌^◌, ◌<◌}
use Rattle.digits.specs.Digits.{digit, pack}

unfoldable pub quad : ℕ → ℕ
quad p = pack 4 (λ k. digit 3 k p) 6

-- q holds a digit for each line
pub record Held (q : ℕ) : Type 0 where
  pub low : q < 4 ^ 6
  pub each : (k : ℕ) → k < 6 → digit 4 k q < 3
