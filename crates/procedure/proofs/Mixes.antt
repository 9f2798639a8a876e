-- A row on its way: i below digit k, and a from digit k up. It begins as a and ends as i, one digit is put at a time, and it never falls below i.
-- Each law goes over to a / r and i / r. Assumes nothing.
use mathlib.Core.Path.{◌≡◌, refl}
use Prim.Native.Nat.{ℕ, zero, suc, ◌+◌, ◌*◌, ◌/◌, ◌%◌, ◌^◌, ◌≤◌, ◌<◌}
use native.Mathlib.Nat.{mod-lt, mod-add-div, mul-le-mul_left, div-mul-le_self, le-div_iff_mul-le, le_trans, pow-zero}
use native.Mathlib.Omega.{arith}
use Rattle.digits.specs.Digits.{digit, put}
use Rattle.digits.proofs.Digits.{low_div, low_mod, digit_zero, digit_suc, put_zero, put_suc, div_lt_pow}

unfoldable pub mixed : ℕ → ℕ → ℕ → ℕ → ℕ
mixed r zero a i = a
mixed r (suc k) a i = i % r + r * mixed r k (a / r) (i / r)

pub mixed_none : (r a i : ℕ) → mixed r 0 a i ≡ a
unfolding mixed
mixed_none r a i = refl

pub div_mono : (r a i : ℕ) → 0 < r → i ≤ a → i / r ≤ a / r
div_mono r a i pos le = (le-div_iff_mul-le pos).1 (le_trans (div-mul-le_self i r) le)

module _ (r : ℕ) (pos : 0 < r) where
  -- digit k is still that of a
  pub mixed_digit : (k a i : ℕ) → digit r k (mixed r k a i) ≡ digit r k a
  unfolding mixed
  mixed_digit zero a i = refl
  mixed_digit (suc k) a i =
      let m : i % r < r = mod-lt i pos in
      rw (digit_suc, low_div _ m, digit_suc) (mixed_digit k (a / r) (i / r))

  -- the next digit is put
  pub mixed_put : (k a i : ℕ) → put r k (mixed r k a i) (digit r k i) ≡ mixed r (suc k) a i
  unfolding mixed
  mixed_put zero a i = rw (put_zero, digit_zero)
  mixed_put (suc k) a i =
      let m : i % r < r = mod-lt i pos in
      rw (put_suc, low_div _ m, low_mod _ m, digit_suc, mixed_put k (a / r) (i / r))

  pub mixed_all : (n a i : ℕ) → a < r ^ n → i < r ^ n → mixed r n a i ≡ i
  unfolding mixed
  mixed_all zero a i la li =
      let la' : a < 1 = rw pow-zero at la in
      let li' : i < 1 = rw pow-zero at li in
      omega arith
  mixed_all (suc n) a i la li =
      rw (mixed_all n (a / r) (i / r) (div_lt_pow r n a pos la) (div_lt_pow r n i pos li)) (mod-add-div i r)

  pub mixed_ge : (k a i : ℕ) → i ≤ a → i ≤ mixed r k a i
  unfolding mixed
  mixed_ge zero a i le = le
  mixed_ge (suc k) a i le =
      let m : r * (i / r) ≤ r * mixed r k (a / r) (i / r) = mul-le-mul_left r (mixed_ge k (a / r) (i / r) (div_mono r a i pos le)) in
      omega (arith, mod-add-div i r)
