-- Digits of a number in radix r: digit k has weight r ^ k.
use Rattle.std.specs.Prelude.{ℕ, ◌+◌, ◌-◌, ◌*◌, ◌/◌, ◌%◌, ◌^◌}
use Rattle.ranges.specs.Ranges.{sum}

-- digit k of p
unfoldable pub digit : ℕ → ℕ → ℕ → ℕ
digit r k p = p / r ^ k % r

-- p with digit k replaced by d
unfoldable pub put : ℕ → ℕ → ℕ → ℕ → ℕ
put r k p d = p - digit r k p * r ^ k + d * r ^ k

-- the number whose digits below m are f 0, f 1, ..
unfoldable pub pack : ℕ → (ℕ → ℕ) → ℕ → ℕ
pack r f m = sum (λ k. f k * r ^ k) 0 m
