-- Digits in a radix that is a power of two, under the operations on bits: these work digit by digit. Assumes nothing.
use mathlib.Core.Path.{◌≡◌, refl, sym, ◌∙◌}
use Prim.Native.Nat.{ℕ, zero, suc, ◌+◌, ◌*◌, ◌/◌, ◌%◌, ◌^◌, ◌<◌, min, max}
use native.Mathlib.Nat.{pow-zero}
use native.Mathlib.Omega.{arith}
use lib.Arith.{bin_ind}
use lib.Bits.{bit_and, bit_or, bit_xor, and_step, or_step, and_zero_l, and_shr, and_mod, or_shr, or_mod, xor_shr, xor_mod}
use Rattle.ranges.specs.Ranges.{sum}
use Rattle.digits.specs.Digits.{digit, pack}
use Rattle.digits.proofs.Digits.{digit_zero, digit_suc, digit_high}

module _ (op : ℕ → ℕ → ℕ) (shr : (a b k : ℕ) → op a b / 2 ^ k ≡ op (a / 2 ^ k) (b / 2 ^ k)) (low : (a b k : ℕ) → op a b % 2 ^ k ≡ op (a % 2 ^ k) (b % 2 ^ k)) where
  by_digits : (s k a b : ℕ) → digit (2 ^ s) k (op a b) ≡ op (digit (2 ^ s) k a) (digit (2 ^ s) k b)
  by_digits s zero a b = rw (digit_zero, digit_zero, digit_zero) (low a b s)
  by_digits s (suc k) a b = rw (digit_suc, digit_suc, digit_suc, shr a b s) (by_digits s k (a / 2 ^ s) (b / 2 ^ s))

pub digit_and : (s k a b : ℕ) → digit (2 ^ s) k (bit_and a b) ≡ bit_and (digit (2 ^ s) k a) (digit (2 ^ s) k b)
digit_and = by_digits bit_and and_shr and_mod

pub digit_or : (s k a b : ℕ) → digit (2 ^ s) k (bit_or a b) ≡ bit_or (digit (2 ^ s) k a) (digit (2 ^ s) k b)
digit_or = by_digits bit_or or_shr or_mod

pub digit_xor : (s k a b : ℕ) → digit (2 ^ s) k (bit_xor a b) ≡ bit_xor (digit (2 ^ s) k a) (digit (2 ^ s) k b)
digit_xor = by_digits bit_xor xor_shr xor_mod

-- the lowest bit of a byte, once the number is halved, is the byte's next bit
pub byte_half : (k x : ℕ) → digit 256 k (x / 2) % 2 ≡ digit 256 k x / 2 % 2
byte_half zero x = rw (digit_zero, digit_zero) (omega arith)
byte_half (suc k) x =
    let same : x / 2 / 256 ≡ x / 256 / 2 = omega arith in
    rw (digit_suc, digit_suc, same) (byte_half k (x / 256))

-- 0 has no other digit than 0
pub digit_of_zero : (r k : ℕ) → 0 < r → digit r k 0 ≡ 0
digit_of_zero r k pos = digit_high r 0 k 0 pos (rw pow-zero (omega arith)) (omega arith)

-- six bytes are their sum and a multiple of 255
pub bytes_sum : (f : ℕ → ℕ) → pack 256 f 6 ≡ sum f 0 6 + 255 * (f 1 + 257 * f 2 + 65793 * f 3 + 16843009 * f 4 + 4311810305 * f 5)
unfolding pack sum
bytes_sum f = omega arith

-- ---- sets of bits put together

bit_max : (a b : ℕ) → a < 2 → b < 2 → max a b < 2
bit_max zero zero la lb = omega arith
bit_max zero (suc zero) la lb = omega arith
bit_max (suc zero) zero la lb = omega arith
bit_max (suc zero) (suc zero) la lb = omega arith
bit_max (suc (suc a)) b la lb = absurd (omega arith)
bit_max zero (suc (suc b)) la lb = absurd (omega arith)
bit_max (suc zero) (suc (suc b)) la lb = absurd (omega arith)

bit_meets : (a b c : ℕ) → a < 2 → b < 2 → min (max a b) c ≡ 0 → (min a c ≡ 0) × (min b c ≡ 0)
bit_meets zero zero c la lb e = (e, e)
bit_meets zero (suc zero) zero la lb e = (refl, refl)
bit_meets zero (suc zero) (suc c) la lb e = absurd (omega arith)
bit_meets (suc zero) zero zero la lb e = (refl, refl)
bit_meets (suc zero) zero (suc c) la lb e = absurd (omega arith)
bit_meets (suc zero) (suc zero) c la lb e = (e, e)
bit_meets (suc (suc a)) b c la lb e = absurd (omega arith)
bit_meets zero (suc (suc b)) c la lb e = absurd (omega arith)
bit_meets (suc zero) (suc (suc b)) c la lb e = absurd (omega arith)

-- what meets nothing of two sets put together meets nothing of either
pub or_meets : (u w x : ℕ) → bit_and (bit_or u w) x ≡ 0 → (bit_and u x ≡ 0) × (bit_and w x ≡ 0)
or_meets = bin_ind (λ u. (w x : ℕ) → bit_and (bit_or u w) x ≡ 0 → (bit_and u x ≡ 0) × (bit_and w x ≡ 0)) (λ w x e. (and_zero_l x, e)) step
  where
    step : (u : ℕ) → ((w x : ℕ) → bit_and (bit_or (u / 2) w) x ≡ 0 → (bit_and (u / 2) x ≡ 0) × (bit_and w x ≡ 0)) → (w x : ℕ) → bit_and (bit_or u w) x ≡ 0
        → (bit_and u x ≡ 0) × (bit_and w x ≡ 0)
    step u ih w x e =
        let half : bit_or u w / 2 ≡ bit_or (u / 2) (w / 2) = or_shr u w 1 in
        let odd : bit_or u w % 2 ≡ max (u % 2) (w % 2) = omega (arith, or_step u w, bit_max (u % 2) (w % 2) (omega arith) (omega arith)) in
        let parts : bit_and (bit_or (u / 2) (w / 2)) (x / 2) * 2 + min (max (u % 2) (w % 2)) (x % 2) ≡ 0 = rw (half, odd) at (sym (and_step (bit_or u w) x) ∙ e) in
        let high = ih (w / 2) (x / 2) (omega arith) in
        let low = bit_meets (u % 2) (w % 2) (x % 2) (omega arith) (omega arith) (omega arith) in
        (omega (arith, and_step u x, high.0, low.0), omega (arith, and_step w x, high.1, low.1))
