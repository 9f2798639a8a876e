-- The first line that a number packed in base 4 has a digit other than 0 on.
use Rattle.std.specs.Prelude.{ℕ, ◌<◌, ◌≡◌}
use Rattle.digits.specs.Digits.{digit}

-- r is the first line on which x has a digit other than 0
pub record LowestLine (x r : ℕ) : Type 0 where
  pub line : r < 6
  pub some : 0 < digit 4 r x
  pub none_before : (j : ℕ) → j < r → digit 4 j x ≡ 0
