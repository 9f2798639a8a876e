-- The lines on which two patterns differ: of the controls that name them, put against each other bit by bit, the digits other than 0. The first such
-- line is computed for all numbers of six digits. Assumes nothing.
use Rattle.std.proofs.Common.{◌≡◌, refl, sym, ap, ◌∙◌, Bool, true, cond, ℕ, ◌-◌, ◌/◌, ◌^◌, ◌≤◌, ◌<◌, min, mul-le-mul, arith, bit_and}
use Rattle.std.proofs.Common.{bit_or, bit_xor, eqb, eqb-true, ne_eqb}
use Rattle.std.proofs.Math.Decide.{ℕ_discrete}
use Rattle.std.proofs.lemmas.Nat.{and_le_l, and_le_r, xor_lt}
use Rattle.std.specs.Int.Bits.{xor_add_and, xor_self}
use Rattle.std.specs.Int.Count.{count_trailing_zeros}
use Rattle.ranges.specs.Ranges.{every}
use Rattle.ranges.proofs.Tests.{every_below}
use Rattle.digits.specs.Digits.{digit, put}
use Rattle.digits.proofs.Digits.{digit_le, digit_lt, digit_put_same, digit_put_other, put_lt, digits_equal}
use Rattle.digits.proofs.Bits.{digit_xor}
use Rattle.digits.proofs.Sizes.{three_pos, patterns_some}
use Rattle.gates.specs.Inner.Lines.{LowestLine}
use Rattle.gates.proofs.Lines.{first_line, lowest_is}
use Rattle.synthesis.specs.Inner.TableSteps.{full_controls}
use Rattle.synthesis.proofs.Controls.{full_lt, full_past, full_line, full_same}

none_least : (x : ℕ) → min 1 x ≡ 0 → x ≡ 0
none_least x e = omega arith

xor_none : (x y : ℕ) → bit_xor x y ≡ 0 → x ≡ y
xor_none x y e = omega (arith, xor_add_and x y, and_le_l x y, and_le_r x y)

-- a bit for each line on which x has a digit other than 0: the lower of its two
abbrev pub ones : ℕ → ℕ
ones x = bit_and (bit_or x (x / 2 ^ 1)) 0x555

ones_at : (x j : ℕ) → x < 0x1000 → j < 6 → digit 4 j (ones x) ≡ min 1 (digit 4 j x)
unfolding every digit
ones_at x j lx lj =
    eqb-true (digit 4 j (ones x)) (min 1 (digit 4 j x))
    (every_below (λ j. eqb (digit 4 j (ones x)) (min 1 (digit 4 j x))) 6
    (every_below (λ x. every (λ j. eqb (digit 4 j (ones x)) (min 1 (digit 4 j x))) 0 6) 0x1000 refl x lx) j lj)

-- the lines on which a and i differ
abbrev pub differing_lines : ℕ → ℕ → ℕ → ℕ
differing_lines n a i = ones (bit_xor (full_controls n a) (full_controls n i))

xor_low : (n a i : ℕ) → bit_xor (full_controls n a) (full_controls n i) < 0x1000
xor_low n a i = xor_lt 12 (full_controls n a) (full_controls n i) (full_lt n a) (full_lt n i)

pub differing_lines_lt : (n a i : ℕ) → differing_lines n a i < 4 ^ 6
differing_lines_lt n a i = let x = bit_xor (full_controls n a) (full_controls n i) in omega (arith, and_le_r (bit_or x (x / 2 ^ 1)) 0x555)

module _ (n a i : ℕ) where
  on_each_line : (j : ℕ) → j < 6 → digit 4 j (differing_lines n a i) ≡ min 1 (bit_xor (digit 4 j (full_controls n a)) (digit 4 j (full_controls n i)))
  on_each_line j lt = ones_at (bit_xor (full_controls n a) (full_controls n i)) j (xor_low n a i) lt ∙ ap (min 1) (digit_xor 2 j (full_controls n a) (full_controls n i))

  same_none : (j : ℕ) → j < 6 → digit 4 j (full_controls n a) ≡ digit 4 j (full_controls n i) → digit 4 j (differing_lines n a i) ≡ 0
  same_none j lt e = on_each_line j lt ∙ rw e (ap (min 1) (xor_self (digit 4 j (full_controls n i))))

  pub differing_lines_past : (j : ℕ) → n ≤ j → j < 6 → digit 4 j (differing_lines n a i) ≡ 0
  differing_lines_past j le lt = same_none j lt (full_past n a j le lt ∙ sym (full_past n i j le lt))

  pub differing_lines_same : (j : ℕ) → j < 6 → digit 3 j a ≡ digit 3 j i → digit 4 j (differing_lines n a i) ≡ 0
  differing_lines_same j lt e = same_none j lt (full_same n a i j lt e)

  pub same_digits : n ≤ 6 → (j : ℕ) → j < n → digit 4 j (differing_lines n a i) ≡ 0 → digit 3 j a ≡ digit 3 j i
  same_digits lines j lt e =
      sym (full_line n a lines j lt) ∙ xor_none _ _ (none_least _ (sym (on_each_line j (omega arith)) ∙ e)) ∙ full_line n i lines j lt

-- a gets the digit of i on line k
pub differing_lines_less : (n a i k : ℕ) → k < 6 → put 4 k (differing_lines n a i) 0 ≡ differing_lines n (put 3 k a (digit 3 k i)) i
differing_lines_less n a i k lt =
    digits_equal 4 6 _ _ (omega arith) (put_lt 4 6 k (differing_lines n a i) 0 (differing_lines_lt n a i) lt (omega arith)) (differing_lines_lt n (put 3 k a (digit 3 k i)) i)
    (λ j l. content j l (ℕ_discrete j k))
  where
    content : (j : ℕ) → j < 6 → Dec (j ≡ k) → digit 4 j (put 4 k (differing_lines n a i) 0) ≡ digit 4 j (differing_lines n (put 3 k a (digit 3 k i)) i)
    content j l (yes e) =
        rw e
        (digit_put_same 4 k (differing_lines n a i) 0 (omega arith)
        ∙ sym (differing_lines_same n (put 3 k a (digit 3 k i)) i k lt (digit_put_same 3 k a (digit 3 k i) (digit_lt 3 k i three_pos))))
    content j l (no ne) =
        digit_put_other 4 j k (differing_lines n a i) 0 (omega arith) ne ∙ on_each_line n a i j l
        ∙ ap (λ (x : ℕ). min 1 (bit_xor x (digit 4 j (full_controls n i))))
        (full_same n a (put 3 k a (digit 3 k i)) j l (sym (digit_put_other 3 j k a (digit 3 k i) (digit_lt 3 k i three_pos) ne)))
        ∙ sym (on_each_line n (put 3 k a (digit 3 k i)) i j l)

-- ---- the first of them taken away

lowest_one : (x j k : ℕ) → LowestLine x j → LowestLine x k → j ≡ k
lowest_one x j k v w = grind (arith, v.some, w.some, w.none_before j, v.none_before k)

abbrev takes_first : ℕ → Bool
takes_first x = cond (eqb (ones x) 0) true (eqb (bit_and (ones x) (ones x - 1)) (put 4 (first_line (ones x)) (ones x) 0))

all_take : every takes_first 0 0x1000 ≡ true
unfolding every digit put count_trailing_zeros
all_take = refl

pub without_first : (n a i k : ℕ) → LowestLine (differing_lines n a i) k → bit_and (differing_lines n a i) (differing_lines n a i - 1) ≡ put 4 k (differing_lines n a i) 0
without_first n a i k w =
    let x = bit_xor (full_controls n a) (full_controls n i) in
    let some : 0 < ones x = omega (arith, w.some, digit_le 4 k (ones x), mul-le-mul {n₁ = 1} {m₁ = 1} {n₂ = digit 4 k (ones x)} {m₂ = 4 ^ k} w.some (patterns_some 4 k (omega arith))) in
    eqb-true (bit_and (ones x) (ones x - 1)) (put 4 (first_line (ones x)) (ones x) 0)
    (rw (ne_eqb (ones x) 0 (λ e. omega arith)) at (every_below takes_first 0x1000 all_take x (xor_low n a i)))
    ∙ ap (λ (j : ℕ). put 4 j (ones x) 0) (lowest_one (ones x) (first_line (ones x)) k (lowest_is (ones x) some (differing_lines_lt n a i)) w)
