-- Which tables are accepted: refusals 1, 2, 3 and 4. A table is for so many patterns: 3 ^ n on n lines.
use Rattle.std.specs.Prelude.{ℕ, ◌^◌, Bool, not, List, [], eqb, leb, ltb, length, get_or}
use Rattle.ranges.specs.Ranges.{some, first}
use Rattle.card.specs.Card.{Answer, Answer.accepted, refusing, on_lines}

-- entry i is no pattern: it is the number of patterns or more
unfoldable pub too_large : ℕ → List ℕ → ℕ → Bool
too_large patterns t i = leb patterns (get_or t i 0)

-- entry i equals an earlier one
unfoldable pub repeated : List ℕ → ℕ → Bool
repeated t i = some (λ j. eqb (get_or t j 0) (get_or t i 0)) 0 i

-- the first such entry, or the length
unfoldable pub first_large : ℕ → List ℕ → ℕ
first_large patterns t = first (too_large patterns t) 0 (length t)

unfoldable pub first_repeated : List ℕ → ℕ
first_repeated t = first (repeated t) 0 (length t)

-- 2, 3 and 4 of the table t for so many patterns, and else the answer x: 3 looks through the whole table before 4 does
unfoldable pub on_table : ℕ → List ℕ → Answer → Answer
on_table patterns t x =
    refusing (not (eqb (length t) patterns)) 2 0
    (refusing (ltb (first_large patterns t) (length t)) 3 (first_large patterns t)
    (refusing (ltb (first_repeated t) (length t)) 4 (first_repeated t) x))

-- 1 2 3 4
unfoldable pub check_table_answer : ℕ → List ℕ → Answer
check_table_answer n t = on_lines n (on_table (3 ^ n) t (accepted []))
