-- Boards: so many lines, a global control value, and which of the operators D, E and N there are tiles for.
use Rattle.std.specs.Prelude.{ℕ, Bool, true, cond, not, ◌&&◌, eqb, leb, ltb}
use Rattle.digits.specs.Digits.{digit}
use Rattle.card.specs.Card.{Answer, refusing, on_lines}

-- the fitted set is a number: D 1, E 2 and N 4, one of them at least, added
unfoldable pub set_ok : ℕ → Bool
set_ok s = leb 1 s && leb s 7

-- D, E and N, which are 4, 5 and 3, are fitted where the set s has them: its digits in base 2, the lowest for D. C1 and C2 always are
unfoldable pub is_fitted : ℕ → ℕ → Bool
is_fitted s o =
    cond (eqb o 4) (eqb (digit 2 0 s) 1)
    (cond (eqb o 5) (eqb (digit 2 1 s) 1)
    (cond (eqb o 3) (eqb (digit 2 2 s) 1) true))

-- 1, 10 and 13 of a board with n lines, the value v and the set s, and else the answer x
unfoldable pub on_board : ℕ → ℕ → ℕ → Answer → Answer
on_board n v s x = on_lines n (refusing (ltb 2 v) 10 0 (refusing (not (set_ok s)) 13 0 x))
