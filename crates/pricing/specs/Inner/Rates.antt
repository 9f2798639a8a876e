-- What pricing looks up.
use Rattle.std.specs.Prelude.{ℕ, ◌+◌, ◌*◌, ◌/◌, ◌%◌, cond, eqb}
use Rattle.ranges.specs.Ranges.{sum}
use Rattle.digits.specs.Digits.{digit}
use Rattle.boards.specs.Boards.{is_fitted}
use Rattle.pricing.specs.Prices.{base}

-- a control x gives a point, and six more where its value is another than v
unfoldable pub points : ℕ → ℕ → ℕ
points v x = cond (eqb x 3) 0 (cond (eqb x v) 1 7)

-- the points of n lines with the packed controls c
unfoldable pub points_of : ℕ → ℕ → ℕ → ℕ
points_of n v c = sum (λ k. points v (digit 4 k c)) 0 n

-- the price of controls with p points: the remainder by 6 is their number, and the quotient how many have another value
unfoldable pub points_price : ℕ → ℕ
points_price p = base (p % 6) + 2 * (p / 6)

-- what the operator o costs more with the set s
abbrev pub extra : ℕ → ℕ → ℕ
extra s o = cond (is_fitted s o) 0 1
