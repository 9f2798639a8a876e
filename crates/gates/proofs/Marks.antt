-- Six bytes at once: marks on those of which something holds. What is finite is computed. Assumes nothing.
use mathlib.Core.Path.{◌≡◌, refl, sym, ap, ◌∙◌}
use mathlib.Core.Bool.{Bool, cond, not}
use Prim.Native.Nat.{ℕ, ◌+◌, ◌/◌, ◌%◌, ◌^◌, ◌<◌}
use native.Mathlib.Nat.{lt_of_le_of_lt}
use native.Mathlib.Omega.{arith}
use lib.Dec.{eqb, ltb}
use lib.Bits.{bit_and, bit_or, bit_xor, and_le_r, and_mask, or_mod}
use borrow.Author.Tests.{eqb-true, ltb-true}
use Rattle.ranges.specs.Ranges.{every, sum}
use Rattle.ranges.proofs.Bools.{cond_lt, one_at_most}
use Rattle.ranges.proofs.Tests.{every_below}
use Rattle.ranges.proofs.Sums.{sum_le}
use Rattle.digits.specs.Digits.{digit, pack}
use Rattle.digits.proofs.Digits.{digits_equal}
use Rattle.digits.proofs.Packs.{pack_lt, pack_ext, digit_pack}
use Rattle.digits.proofs.Bits.{digit_and, digit_or, digit_xor, byte_half, bytes_sum}
use Rattle.gates.specs.Gates.{control}
use Rattle.gates.specs.Inner.Words.{byte, gate_of, LowControls, control_marks, other_marks}
use Rattle.gates.proofs.Bytes.{same, byte_high}

-- ---- marks

ones_byte : (k : ℕ) → k < 6 → byte k 1103823438081 ≡ 1
unfolding every digit
ones_byte k lt = eqb-true _ _ (every_below (λ k. eqb (byte k 1103823438081) 1) 6 refl k lt)

two_bits : (x : ℕ) → x < 4 → bit_or (x % 2) (x / 2 % 2) ≡ cond (eqb x 0) 0 1
unfolding every
two_bits x lt = eqb-true _ _ (every_below (λ x. eqb (bit_or (x % 2) (x / 2 % 2)) (cond (eqb x 0) 0 1)) 4 refl x lt)

-- 0 or 1 is a byte
mark_lt : (b : Bool) → cond b 0 1 < 256
mark_lt b = cond_lt b (omega arith) (omega arith)

marked_is : (x : ℕ) → ((k : ℕ) → k < 6 → byte k x < 4) → bit_and (bit_or x (x / 2)) 1103823438081 ≡ pack 256 (λ k. cond (eqb (byte k x) 0) 0 1) 6
marked_is x small =
    digits_equal 256 6 (bit_and (bit_or x (x / 2)) 1103823438081) (pack 256 (λ k. cond (eqb (byte k x) 0) 0 1) 6) (omega arith)
    (lt_of_le_of_lt (and_le_r (bit_or x (x / 2)) 1103823438081) (omega arith)) (pack_lt 256 (λ k. cond (eqb (byte k x) 0) 0 1) 6 (λ k lt. mark_lt (eqb (byte k x) 0)))
    (λ k lt. each k lt ∙ sym (digit_pack 256 (λ k. cond (eqb (byte k x) 0) 0 1) 6 (λ k lt. mark_lt (eqb (byte k x) 0)) k lt))
  where
    each : (k : ℕ) → k < 6 → digit 256 k (bit_and (bit_or x (x / 2)) 1103823438081) ≡ cond (eqb (byte k x) 0) 0 1
    each k lt =
        let a : digit 256 k (bit_and (bit_or x (x / 2)) 1103823438081) ≡ bit_and (byte k (bit_or x (x / 2))) (byte k 1103823438081) = digit_and 8 k (bit_or x (x / 2)) 1103823438081 in
        let o : digit 256 k (bit_or x (x / 2)) ≡ bit_or (byte k x) (byte k (x / 2)) = digit_or 8 k x (x / 2) in
        let one : bit_and (bit_or (byte k x) (byte k (x / 2))) 1 ≡ bit_or (byte k x) (byte k (x / 2)) % 2 = and_mask (bit_or (byte k x) (byte k (x / 2))) 1 in
        let both : bit_or (byte k x) (byte k (x / 2)) % 2 ≡ bit_or (byte k x % 2) (byte k (x / 2) % 2) = or_mod (byte k x) (byte k (x / 2)) 1 in
        rw (a, ones_byte k lt, o, one, both, byte_half k x) (two_bits (byte k x) (small k lt))

-- a control byte against another byte
other_byte : (x c : ℕ) → x < 4 → c < 4 → (bit_xor x c < 4) × (eqb (bit_xor x c) 0 ≡ eqb c x)
unfolding every
other_byte x c lx lc =
    let low = every_below (λ x. every (λ c. ltb (bit_xor x c) 4) 0 4) 4 refl x lx in
    let eq = every_below (λ x. every (λ c. cond (eqb (bit_xor x c) 0) (eqb c x) (not (eqb c x))) 0 4) 4 refl x lx in
    (ltb-true _ _ (every_below (λ c. ltb (bit_xor x c) 4) 4 low c lc), same _ _ (every_below (λ c. cond (eqb (bit_xor x c) 0) (eqb c x) (not (eqb c x))) 4 eq c lc))

threes_byte : (k : ℕ) → k < 6 → byte k 3311470314243 ≡ 3
unfolding every digit
threes_byte k lt = eqb-true _ _ (every_below (λ k. eqb (byte k 3311470314243) 3) 6 refl k lt)

-- 3 in each byte: other bytes are controls
pub threes_small : (k : ℕ) → k < 6 → byte k 3311470314243 < 4
threes_small k lt = rw (threes_byte k lt) (omega arith)

pub controls_marked : (w : ℕ) → other_marks w 3311470314243 ≡ control_marks w
unfolding other_marks control_marks
controls_marked w =
    pack_ext 256 (λ k. cond (eqb (byte (2 + k) w) (byte k 3311470314243)) 0 1) (λ k. cond (eqb (byte (2 + k) w) 3) 0 1) 6 (λ k lt. rw (threes_byte k lt))

module _ (w : ℕ) (low : LowControls w) (d : ℕ) (small : (k : ℕ) → k < 6 → byte k d < 4) where
  others_xor : (k : ℕ) → byte k (bit_xor d (w / 65536)) ≡ bit_xor (byte k d) (byte (2 + k) w)
  others_xor k =
      let x : digit 256 k (bit_xor d (w / 65536)) ≡ bit_xor (byte k d) (byte k (w / 65536)) = digit_xor 8 k d (w / 65536) in
      rw (x, byte_high k w)

  pub others_marked : bit_and (bit_or (bit_xor d (w / 65536)) (bit_xor d (w / 65536) / 2)) 1103823438081 ≡ other_marks w d
  unfolding other_marks
  others_marked =
      let other : (k : ℕ) → k < 6 → (bit_xor (byte k d) (byte (2 + k) w) < 4) × (eqb (bit_xor (byte k d) (byte (2 + k) w)) 0 ≡ eqb (byte (2 + k) w) (byte k d)) =
      λ k lt. other_byte (byte k d) (byte (2 + k) w) (small k lt) (low.each k lt) in
      marked_is (bit_xor d (w / 65536)) (λ k lt. rw (others_xor k) (other k lt).0)
      ∙ pack_ext 256 (λ k. cond (eqb (byte k (bit_xor d (w / 65536))) 0) 0 1) (λ k. cond (eqb (byte (2 + k) w) (byte k d)) 0 1) 6
      (λ k lt. ap (λ (b : Bool). cond b 0 1) (ap (λ (x : ℕ). eqb x 0) (others_xor k) ∙ (other k lt).1))

-- the bytes of marks
pub control_mark : (w k : ℕ) → k < 6 → byte k (control_marks w) ≡ cond (eqb (byte (2 + k) w) 3) 0 1
unfolding control_marks
control_mark w k lt = digit_pack 256 (λ k. cond (eqb (byte (2 + k) w) 3) 0 1) 6 (λ k lt. mark_lt (eqb (byte (2 + k) w) 3)) k lt

pub marks_lt : (w : ℕ) → control_marks w < 256 ^ 6
unfolding control_marks
marks_lt w = pack_lt 256 (λ k. cond (eqb (byte (2 + k) w) 3) 0 1) 6 (λ k lt. mark_lt (eqb (byte (2 + k) w) 3))

-- how many of six marks there are: modulo 255 each byte has the weight 1
pub marks_counted : (f : ℕ → Bool) → pack 256 (λ k. cond (f k) 0 1) 6 % 255 ≡ sum (λ k. cond (f k) 0 1) 0 6
marks_counted f =
    let few = sum_le (λ k. cond (f k) 0 1) 1 0 6 (λ k. one_at_most (f k)) in
    omega (arith, bytes_sum (λ k. cond (f k) 0 1), few)

-- the gate's control on line k is its byte
pub control_word_lem : (w : ℕ) → LowControls w → (k : ℕ) → k < 6 → control (gate_of w) k ≡ byte (2 + k) w
unfolding gate_of
control_word_lem w low k lt = digit_pack 4 (λ k. byte (2 + k) w) 6 low.each k lt
