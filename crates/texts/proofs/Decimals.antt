-- Numbers in decimal: how many digits there are, one turn of a loop that counts them, and one of a loop that stores them from the last down.
-- It rests on the laws of `first` and of digits. Assumes nothing.
use Rattle.std.proofs.Common.{◌≡◌, sym, ap, ◌∙◌, Bool, true, false, ⊎_elim, List, [], ◌∷◌, ◌++◌, ℕ, zero, suc, ◌+◌, ◌-◌, ◌*◌, ◌/◌, ◌%◌, ◌^◌, ◌≤◌, ◌<◌, zero-add, le_trans, add-one, arith, ltb, length, set, lt-ltb, le-ltb, ltb-true, ltb-false}
use Rattle.std.proofs.lemmas.List.Edits.{sets}
use Rattle.std.proofs.Math.Nat.{pow-succ', pow-le-pow_right}
use Rattle.ranges.specs.Ranges.{span}
use Rattle.ranges.proofs.Bools.{clash, decide}
use Rattle.ranges.proofs.Searches.{Found, found, found_unique}
use Rattle.ranges.proofs.Spans.{length_span, span_none, span_cons, span_ext, span_snoc}
use Rattle.ranges.proofs.Stores.{sets_before}
use Rattle.digits.specs.Digits.{digit}
use Rattle.digits.proofs.Digits.{digit_zero, digit_suc, shift_digit}
use Rattle.texts.specs.Texts.{width, decimal}

-- ---- how many digits

-- w digits are enough for x
abbrev enough : ℕ → ℕ → Bool
enough x w = ltb x (10 ^ w)

width_found : (x : ℕ) → Found (enough x) 1 20 (width x)
unfolding width
width_found x = found (enough x) 1 19

pub width_some : (x : ℕ) → 1 ≤ width x
width_some x = (width_found x).from

pub width_most : (x : ℕ) → width x ≤ 20
width_most x = (width_found x).within

-- a number below 10 to the k has at most k digits
pub width_le : (x k : ℕ) → 1 ≤ k → x < 10 ^ k → width x ≤ k
width_le x k pos lt =
    ⊎_elim (λ (e : ltb k (width x) ≡ true). clash (enough x k) (lt-ltb x (10 ^ k) lt) ((width_found x).before k pos (ltb-true k (width x) e)))
    (λ (e : ltb k (width x) ≡ false). ltb-false k (width x) e) (decide (ltb k (width x)))

-- by the power of ten that x has: it is at least that, and below ten times it
pub width_is : (x k : ℕ) → k < 20 → 10 ^ k ≤ x → x < 10 * 10 ^ k → k + 1 ≡ width x
width_is x k few low high =
    found_unique (enough x) 1 20 (k + 1) (width x)
    (record {
      from = omega arith;
      within = omega arith;
      before = λ j le lt. le-ltb x (10 ^ j) (le_trans (pow-le-pow_right {n = 10} (omega arith) {i = j} {j = k} (omega arith)) low);
      hit = λ lt. lt-ltb x (10 ^ (k + 1)) (rw (add-one k, pow-succ') high);
    })
    (width_found x)

-- ---- the digits

-- byte i of x in w digits
abbrev pub byte_of : ℕ → ℕ → ℕ → ℕ
byte_of x w i = 0x30 + digit 10 (w - (i + 1)) x

pub length_decimal : (x : ℕ) → length (decimal x) ≡ width x
unfolding decimal
length_decimal x = length_span (byte_of x (width x)) 0 (width x)

pub width_small : (x : ℕ) → x < 10 → width x ≡ 1
width_small x lt = omega (arith, width_some x, width_le x 1 (omega arith) lt)

-- one turn of the loop that stores: the bytes behind place j are stored, and now the one there
pub byte_stored : (x w : ℕ) (digits : List ℕ) (rest j : ℕ) → rest ≡ x / 10 ^ (w - (j + 1))
    → sets (set digits j (0x30 + rest % 10)) 0 (span (byte_of x w) 0 j) ≡ sets digits 0 (span (byte_of x w) 0 (j + 1))
byte_stored x w digits rest j e =
    let s : span (byte_of x w) 0 (suc j) ≡ span (byte_of x w) 0 j ++ (byte_of x w j ∷ []) = rw (zero-add j) at (span_snoc (byte_of x w) 0 j) in
    rw (shift_digit 10 (w - (j + 1)) x rest e)
    (sets_before (span (byte_of x w) 0 j) (byte_of x w j ∷ []) digits 0 j (rw (length_span (byte_of x w) 0 j, zero-add))
    ∙ ap (λ (l : List ℕ). sets digits 0 l) (sym s ∙ ap (span (byte_of x w) 0) (sym (add-one j))))

-- ---- one digit more

-- a number below ten is its digit
pub decimal_one : (d : ℕ) → d < 10 → decimal d ≡ (0x30 + d) ∷ []
unfolding decimal
decimal_one d lt =
    rw (width_small d lt)
    (span_cons (byte_of d 1) 0 0 ∙ rw (span_none (byte_of d 1) (0 + 1)) (ap (λ (x : ℕ). (0x30 + x) ∷ []) (digit_zero 10 d ∙ omega (arith, lt))))

module _ (x d : ℕ) (some : x ≡ 0 → ⊥) (low : d < 10) (few : width x < 20) where
  abbrev longer : ℕ
  longer = 10 * x + d

  cut : longer / 10 ≡ x
  cut = omega (arith, low)

  wider : width longer ≡ suc (width x)
  wider =
      found_unique (enough longer) 1 20 (width longer) (suc (width x)) (width_found longer)
      (record {
        from = omega arith;
        within = omega arith;
        before = λ k le lt. le-ltb longer (10 ^ k) (small k le lt);
        hit = λ lt. lt-ltb longer (10 ^ suc (width x)) (large (ltb-true x (10 ^ width x) ((width_found x).hit few)));
      })
    where
      large : x < 10 ^ width x → longer < 10 ^ suc (width x)
      large lt = rw pow-succ' (omega (arith, lt, low))

      small : (k : ℕ) → 1 ≤ k → k < suc (width x) → 10 ^ k ≤ longer
      small zero le lt = absurd (omega arith)
      small (suc zero) le lt = omega arith
      small (suc (suc k)) le lt =
          let more : 10 ^ suc k ≤ x = ltb-false x (10 ^ suc k) ((width_found x).before (suc k) (omega arith) (omega arith)) in
          rw pow-succ' (omega (arith, more))

  -- a number that is not 0 and one digit more are the number's digits and that one
  pub decimal_more : decimal (10 * x + d) ≡ decimal x ++ ((0x30 + d) ∷ [])
  unfolding decimal
  decimal_more =
      rw wider
      (span_snoc (byte_of longer (suc (width x))) 0 (width x)
      ∙ rw (span_ext (byte_of longer (suc (width x))) (byte_of x (width x)) 0 (width x) (λ i _ lt. same i (omega (arith, lt))), last))
    where
      same : (i : ℕ) → i < width x → byte_of longer (suc (width x)) i ≡ byte_of x (width x) i
      same i lt =
          let k : suc (width x) - (i + 1) ≡ suc (width x - (i + 1)) = omega arith in
          rw (k, digit_suc 10 (width x - (i + 1)) longer, cut)

      last : byte_of longer (suc (width x)) (0 + width x) ≡ 0x30 + d
      last =
          let k : suc (width x) - (0 + width x + 1) ≡ 0 = omega arith in
          rw (k, digit_zero 10 longer) (omega (arith, low))
