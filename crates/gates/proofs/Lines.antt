-- The first line that a packed number has a digit on is found by the zeros below its lowest bit, which is computed for each number. Assumes nothing.
use Rattle.std.proofs.Common.{◌≡◌, ℕ, ◌/◌, ◌<◌, Bool, true, cond, ◌&&◌, eqb, ltb, eqb-true, ltb-true, ne_eqb, refl, arith}
use lib.Count.{count_trailing_zeros}
use Rattle.ranges.specs.Ranges.{every}
use Rattle.ranges.proofs.Bools.{and_left, and_right}
use Rattle.ranges.proofs.Tests.{every_below}
use Rattle.digits.specs.Digits.{digit}
use Rattle.gates.specs.Inner.Lines.{LowestLine}

abbrev pub first_line : ℕ → ℕ
first_line x = count_trailing_zeros 16 x / 2

abbrev none_below : ℕ → Bool
none_below x = every (λ j. eqb (digit 4 j x) 0) 0 (first_line x)

abbrev some_there : ℕ → Bool
some_there x = ltb 0 (digit 4 (first_line x) x)

abbrev is_first : ℕ → Bool
is_first x = ltb (first_line x) 6 && (some_there x && none_below x)

all_first : every (λ x. cond (eqb x 0) true (is_first x)) 0 0x1000 ≡ true
unfolding every digit count_trailing_zeros
all_first = refl

pub lowest_is : (x : ℕ) → 0 < x → x < 0x1000 → LowestLine x (first_line x)
lowest_is x some lt =
    let all : is_first x ≡ true = rw (ne_eqb x 0 (λ e. omega arith)) at (every_below (λ x. cond (eqb x 0) true (is_first x)) 0x1000 all_first x lt) in
    let rest : (some_there x && none_below x) ≡ true = and_right (ltb (first_line x) 6) (some_there x && none_below x) all in
    record {
      line = ltb-true (first_line x) 6 (and_left (ltb (first_line x) 6) (some_there x && none_below x) all);
      some = ltb-true 0 (digit 4 (first_line x) x) (and_left (some_there x) (none_below x) rest);
      none_before = λ j l. eqb-true (digit 4 j x) 0 (every_below (λ j. eqb (digit 4 j x) 0) (first_line x) (and_right (some_there x) (none_below x) rest) j l);
    }
