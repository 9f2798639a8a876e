-- The laws of `pack`: its digits are those packed, it has no others, and the digits of a number packed again give the number.
-- They rest on `pack_front`, the lowest digit taken off. Assumes nothing.
use mathlib.Core.Path.{◌≡◌, refl, sym, ap, ◌∙◌}
use Prim.Native.Nat.{ℕ, zero, suc, ◌+◌, ◌*◌, ◌^◌, ◌<◌}
use native.Mathlib.Nat.{zero-add, add-zero, add-mul, pow-zero, pow-succ', mul-add, mul-zero, mul-one, zero-mul, mul_left_comm}
use native.Mathlib.Decide.{ℕ_discrete}
use native.Mathlib.Omega.{arith}
use Rattle.ranges.specs.Ranges.{sum}
use Rattle.ranges.proofs.Sums.{sum_snoc, sum_ext}
use Rattle.digits.specs.Digits.{digit, put, pack}
use Rattle.digits.proofs.Digits.{low_div, low_mod, low_lt, digit_zero, digit_suc, digit_lt, digits_equal, put_value, digit_put_same, digit_put_other}

pub pack_zero : (r : ℕ) (f : ℕ → ℕ) → pack r f 0 ≡ 0
unfolding pack sum
pack_zero r f = refl

-- one digit more at the top
pub pack_suc : (r : ℕ) (f : ℕ → ℕ) (m : ℕ) → pack r f (suc m) ≡ pack r f m + f m * r ^ m
unfolding pack
pack_suc r f m = rw (zero-add m) at (sum_snoc (λ k. f k * r ^ k) 0 m)

pub pack_front : (r : ℕ) (f : ℕ → ℕ) (m : ℕ) → pack r f (suc m) ≡ f 0 + r * pack r (λ k. f (suc k)) m
pack_front r f zero = rw (pack_suc, pack_zero, pack_zero, pow-zero, mul-one, mul-zero) (omega arith)
pack_front r f (suc m) =
    rw (pack_suc r f (suc m), pack_front r f m, pack_suc r (λ k. f (suc k)) m, pow-succ', mul_left_comm (f (suc m)) r (r ^ m), mul-add) (omega arith)

pub pack_ext : (r : ℕ) (f g : ℕ → ℕ) (m : ℕ) → ((k : ℕ) → k < m → f k ≡ g k) → pack r f m ≡ pack r g m
unfolding pack
pack_ext r f g m h = sum_ext (λ k. f k * r ^ k) (λ k. g k * r ^ k) 0 m (λ k le lt. ap (λ (x : ℕ). x * r ^ k) (h k (omega arith)))

pub pack_lt : (r : ℕ) (f : ℕ → ℕ) (m : ℕ) → ((k : ℕ) → k < m → f k < r) → pack r f m < r ^ m
pack_lt r f zero h = rw (pack_zero, pow-zero) (omega arith)
pack_lt r f (suc m) h =
    rw (pack_front, pow-succ') (low_lt (h 0 (omega arith)) (pack_lt r (λ k. f (suc k)) m (λ k lt. h (suc k) (omega arith))))

pub digit_pack : (r : ℕ) (f : ℕ → ℕ) (m : ℕ) → ((k : ℕ) → k < m → f k < r) → (k : ℕ) → k < m → digit r k (pack r f m) ≡ f k
digit_pack r f zero h k lt = absurd (omega arith)
digit_pack r f (suc m) h zero lt = rw (pack_front, digit_zero, low_mod _ (h 0 lt))
digit_pack r f (suc m) h (suc k) lt =
    rw (pack_front, digit_suc, low_div _ (h 0 (omega arith))) (digit_pack r (λ j. f (suc j)) m (λ j l. h (suc j) (omega arith)) k (omega arith))

-- a number of m digits is its digits packed
pub pack_digits : (r m p : ℕ) → 0 < r → p < r ^ m → pack r (λ k. digit r k p) m ≡ p
pack_digits r m p pos lt =
    let small : (k : ℕ) → k < m → digit r k p < r = λ k l. digit_lt r k p pos in
    digits_equal r m (pack r (λ k. digit r k p) m) p pos (pack_lt r (λ k. digit r k p) m small) lt (λ k l. digit_pack r (λ k. digit r k p) m small k l)

-- digits of which digit t is 0, with d added there
module _ (r : ℕ) (f : ℕ → ℕ) (m : ℕ) (small : (k : ℕ) → k < m → f k < r) (t d : ℕ) (lt : t < m) (free : f t ≡ 0) (ld : d < r) where
  free_put : pack r f m + d * r ^ t ≡ put r t (pack r f m) d
  free_put =
      let none : digit r t (pack r f m) ≡ 0 = digit_pack r f m small t lt ∙ free in
      sym (put_value r t (pack r f m) d)
      ∙ ap (λ (y : ℕ). put r t (pack r f m) d + y * r ^ t) none
      ∙ ap (λ (y : ℕ). put r t (pack r f m) d + y) (zero-mul (r ^ t))
      ∙ add-zero (put r t (pack r f m) d)

  pub free_there : digit r t (pack r f m + d * r ^ t) ≡ d
  free_there = ap (digit r t) free_put ∙ digit_put_same r t (pack r f m) d ld

  pub free_else : (k : ℕ) → k < m → (k ≡ t → ⊥) → digit r k (pack r f m + d * r ^ t) ≡ f k
  free_else k lk ne = ap (digit r k) free_put ∙ digit_put_other r k t (pack r f m) d ld ne ∙ digit_pack r f m small k lk

-- ---- sums, a digit replaced, a bound

pub pack_add : (r : ℕ) (f g : ℕ → ℕ) (m : ℕ) → pack r (λ k. f k + g k) m ≡ pack r f m + pack r g m
pack_add r f g zero = rw (pack_zero, pack_zero, pack_zero)
pack_add r f g (suc m) = rw (pack_suc, pack_suc, pack_suc, pack_add r f g m, add-mul (f m) (g m) (r ^ m)) (omega arith)

-- one digit replaced
pub pack_replaced : (r : ℕ) (f g : ℕ → ℕ) (k : ℕ) → ((j : ℕ) → (j ≡ k → ⊥) → f j ≡ g j) → (m : ℕ) → k < m → pack r f m + g k * r ^ k ≡ pack r g m + f k * r ^ k
pack_replaced r f g k h zero lt = absurd (omega arith)
pack_replaced r f g k h (suc m) lt = rw (pack_suc, pack_suc) (go (pack_replaced r f g k h m) (ℕ_discrete m k))
  where
    go : (k < m → pack r f m + g k * r ^ k ≡ pack r g m + f k * r ^ k) → Dec (m ≡ k) → pack r f m + f m * r ^ m + g k * r ^ k ≡ pack r g m + g m * r ^ m + f k * r ^ k
    go below (yes e) = rw (e, pack_ext r f g k (λ j l. h j (λ q. omega arith))) (omega arith)
    go below (no ne) = rw (h m ne) (omega (arith, below (omega arith)))
