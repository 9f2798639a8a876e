-- The laws of `digit` and `put`, each once, over any radix and any line.
-- Everything rests on how the two go over to p / r: `digit_zero`, `digit_suc`, `put_zero`, `put_suc`. Assumes nothing.
use mathlib.Core.Path.{◌≡◌, refl, sym, ap, ◌∙◌}
use Prim.Native.Nat.{ℕ, zero, suc, ◌+◌, ◌-◌, ◌*◌, ◌/◌, ◌%◌, ◌^◌, ◌≤◌, ◌<◌}
use native.Mathlib.Nat.{pow-zero, pow-suc, pow-succ', pow-le-pow_right, div-one, div-div-eq-div-mul, div-eq_of_lt, div-lt_iff_lt-mul, div-mul-le_self, add-mul-div_left, add-mul-mod_self_left, mod-eq_of_lt, mod-lt, mod-le, mod-add-div, add-zero, zero-add, zero-mod, mul-one, mul-add, mul-suc, mul_left_comm, mul_assoc, mul-le-mul_left, mul-le-mul_right, le_trans, lt_of_lt_of_le}
use native.Mathlib.Numerals.{add-one}
use lib.Pow.{pow-add}
use native.Mathlib.Omega.{arith}
use Rattle.digits.specs.Digits.{digit, put}

-- a digit d below the digits of q
pub low_div : {r d : ℕ} (q : ℕ) → d < r → (d + r * q) / r ≡ q
low_div {r} {d} q lt = add-mul-div_left d q (omega arith) ∙ rw (div-eq_of_lt lt, zero-add)

pub low_mod : {r d : ℕ} (q : ℕ) → d < r → (d + r * q) % r ≡ d
low_mod {r} {d} q lt = rw (add-mul-mod_self_left, mod-eq_of_lt lt)

pub low_lt : {r d q m : ℕ} → d < r → q < m → d + r * q < r * m
low_lt {r} {d} {q} {m} ld lq = omega (arith, mul-le-mul_left r lq, mul-suc r q)

-- ---- how they recurse

pub digit_zero : (r p : ℕ) → digit r zero p ≡ p % r
unfolding digit
digit_zero r p = rw (pow-zero, div-one)

pub digit_suc : (r k p : ℕ) → digit r (suc k) p ≡ digit r k (p / r)
unfolding digit
digit_suc r k p = rw (pow-succ', div-div-eq-div-mul)

-- a digit times its weight is part of the number
pub digit_le : (r k p : ℕ) → digit r k p * r ^ k ≤ p
unfolding digit
digit_le r k p = le_trans (mul-le-mul_right (r ^ k) (mod-le (p / r ^ k) r)) (div-mul-le_self p (r ^ k))

-- put without a difference
pub put_value : (r k p d : ℕ) → put r k p d + digit r k p * r ^ k ≡ p + d * r ^ k
unfolding put
put_value r k p d = omega (arith, digit_le r k p)

-- how a program puts a digit d, with the weight w and the digit x that was there
pub put_parts : (r k p d w x : ℕ) → w ≡ r ^ k → x ≡ digit r k p → (x * w ≤ p) × (p - x * w + d * w ≡ put r k p d)
unfolding put
put_parts r k p d w x ew ex = (rw (ew, ex) (digit_le r k p), rw (ew, ex))

pub put_zero : (r p d : ℕ) → put r zero p d ≡ d + r * (p / r)
put_zero r p d =
    let v : put r 0 p d + p % r ≡ p + d = simp (digit_zero, pow-zero, mul-one) at (put_value r 0 p d) in
    omega (arith, mod-add-div p r)

pub put_suc : (r k p d : ℕ) → put r (suc k) p d ≡ p % r + r * put r k (p / r) d
put_suc r k p d =
    let v : put r (suc k) p d + r * (digit r k (p / r) * r ^ k) ≡ p + r * (d * r ^ k) =
    simp (digit_suc, pow-succ', mul_left_comm) at (put_value r (suc k) p d) in
    let w : r * put r k (p / r) d + r * (digit r k (p / r) * r ^ k) ≡ r * (p / r) + r * (d * r ^ k) =
    simp mul-add at (ap (λ (x : ℕ). r * x) (put_value r k (p / r) d)) in
    omega (arith, mod-add-div p r)

-- ---- their laws

pub digit_lt : (r k p : ℕ) → 0 < r → digit r k p < r
unfolding digit
digit_lt r k p pos = mod-lt (p / r ^ k) pos

-- the digit that was put
pub digit_put_same : (r k p d : ℕ) → d < r → digit r k (put r k p d) ≡ d
digit_put_same r zero p d lt = rw (digit_zero, put_zero, low_mod _ lt)
digit_put_same r (suc k) p d lt =
    let m : p % r < r = mod-lt p (omega arith) in
    rw (digit_suc, put_suc, low_div _ m) (digit_put_same r k (p / r) d lt)

-- every other digit stays
pub digit_put_other : (r j k p d : ℕ) → d < r → (j ≡ k → ⊥) → digit r j (put r k p d) ≡ digit r j p
digit_put_other r zero zero p d lt ne = absurd (ne refl)
digit_put_other r zero (suc k) p d lt ne =
    let m : p % r < r = mod-lt p (omega arith) in
    simp (digit_zero, put_suc, low_mod)
digit_put_other r (suc j) zero p d lt ne = simp (digit_suc, put_zero, low_div)
digit_put_other r (suc j) (suc k) p d lt ne =
    let m : p % r < r = mod-lt p (omega arith) in
    simp (digit_suc, put_suc, low_div) (digit_put_other r j k (p / r) d lt (λ e. ne (ap suc e)))

-- a second put wins
pub put_put : (r k p d e : ℕ) → d < r → put r k (put r k p d) e ≡ put r k p e
put_put r zero p d e lt = simp (put_zero, low_div)
put_put r (suc k) p d e lt =
    let m : p % r < r = mod-lt p (omega arith) in
    simp (put_suc, low_mod, low_div, put_put r k (p / r) d e lt)

-- to put the digit that is there changes nothing
pub put_same : (r k p : ℕ) → put r k p (digit r k p) ≡ p
unfolding put
put_same r k p = omega (arith, digit_le r k p)

-- puts at two lines commute
pub put_swap : (r j k p d e : ℕ) → d < r → e < r → (j ≡ k → ⊥) → put r j (put r k p d) e ≡ put r k (put r j p e) d
put_swap r j k p d e ld le ne =
    let other : digit r j (put r k p d) ≡ digit r j p = digit_put_other r j k p d ld ne in
    let other' : digit r k (put r j p e) ≡ digit r k p = digit_put_other r k j p e le (λ q. ne (sym q)) in
    let v₁ : put r j (put r k p d) e + digit r j p * r ^ j ≡ put r k p d + e * r ^ j = rw other at (put_value r j (put r k p d) e) in
    let v₂ : put r k (put r j p e) d + digit r k p * r ^ k ≡ put r j p e + d * r ^ k = rw other' at (put_value r k (put r j p e) d) in
    omega (arith, put_value r k p d, put_value r j p e)

-- the digits above the lowest are those of a number with one digit fewer
pub div_lt_pow : (r n p : ℕ) → 0 < r → p < r ^ suc n → p / r < r ^ n
div_lt_pow r n p pos lt = (div-lt_iff_lt-mul pos).1 (rw (← pow-suc) lt)

-- a put stays below r ^ n
pub put_lt : (r n k p d : ℕ) → p < r ^ n → k < n → d < r → put r k p d < r ^ n
put_lt r zero k p d lp lk ld = absurd (omega arith)
put_lt r (suc n) zero p d lp lk ld = rw (put_zero, pow-succ') (low_lt ld (div_lt_pow r n p (omega arith) lp))
put_lt r (suc n) (suc k) p d lp lk ld =
    let pos : 0 < r = omega arith in
    rw (put_suc, pow-succ') (low_lt (mod-lt p pos) (put_lt r n k (p / r) d (div_lt_pow r n p pos lp) (omega arith) ld))

-- digits from n up are 0
pub digit_high : (r n k p : ℕ) → 0 < r → p < r ^ n → n ≤ k → digit r k p ≡ 0
unfolding digit
digit_high r n k p pos lt le = rw (div-eq_of_lt (lt_of_lt_of_le lt (pow-le-pow_right pos le)), zero-mod)

-- numbers of n digits with equal digits are equal
pub digits_equal : (r n p q : ℕ) → 0 < r → p < r ^ n → q < r ^ n → ((k : ℕ) → k < n → digit r k p ≡ digit r k q) → p ≡ q
digits_equal r zero p q pos lp lq h =
    let lp' : p < 1 = rw pow-zero at lp in
    let lq' : q < 1 = rw pow-zero at lq in
    omega arith
digits_equal r (suc n) p q pos lp lq h =
    let low : p % r ≡ q % r = simp digit_zero at (h zero (omega arith)) in
    let rest : p / r ≡ q / r =
    digits_equal r n (p / r) (q / r) pos (div_lt_pow r n p pos lp) (div_lt_pow r n q pos lq)
    (λ k lk. simp digit_suc at (h (suc k) (omega arith))) in
    sym (mod-add-div p r) ∙ rw (low, rest) (mod-add-div q r)

-- ---- a loop that takes digit after digit off p: q is what is left of p after k of them

pub shift_start : (r p : ℕ) → p ≡ p / r ^ 0
shift_start r p = rw (pow-zero, div-one)

pub shift_digit : (r k p q : ℕ) → q ≡ p / r ^ k → q % r ≡ digit r k p
unfolding digit
shift_digit r k p q e = rw e

pub shift_next : (r k p q : ℕ) → q ≡ p / r ^ k → q / r ≡ p / r ^ (k + 1)
shift_next r k p q e = rw (e, add-one, pow-suc) (div-div-eq-div-mul p (r ^ k) r)

-- and so are all digits from there up
pub shift_digits : (r k m p q : ℕ) → q ≡ p / r ^ k → digit r m q ≡ digit r (k + m) p
shift_digits r k zero p q e = digit_zero r q ∙ shift_digit r k p q e ∙ ap (λ (j : ℕ). digit r j p) (sym (add-zero k))
shift_digits r k (suc m) p q e =
    let next : k + 1 + m ≡ k + suc m = omega arith in
    digit_suc r m q ∙ shift_digits r (k + 1) m p (q / r) (shift_next r k p q e) ∙ ap (λ (j : ℕ). digit r j p) next

-- ---- two numbers in one: lo below, hi from digit m up

pub digit_low : (r k m lo hi : ℕ) → 0 < r → k < m → digit r k (lo + r ^ m * hi) ≡ digit r k lo
digit_low r k zero lo hi pos lt = absurd (omega arith)
digit_low r zero (suc m) lo hi pos lt = rw (digit_zero, digit_zero, pow-succ', mul_assoc) (add-mul-mod_self_left lo r (r ^ m * hi))
digit_low r (suc k) (suc m) lo hi pos lt =
    rw (digit_suc, digit_suc, pow-succ', mul_assoc, add-mul-div_left lo (r ^ m * hi) pos) (digit_low r k m (lo / r) hi pos (omega arith))

pub digit_up : (r k m lo hi : ℕ) → lo < r ^ m → digit r (m + k) (lo + r ^ m * hi) ≡ digit r k hi
unfolding digit
digit_up r k m lo hi lt = rw (pow-add, ← div-div-eq-div-mul, low_div hi lt)
