-- A pattern's lines as digits in base 4: the number and back, a digit replaced, and that a gate does to them what it does to the pattern. What is finite is
-- computed: a control and a digit have four values each. Assumes nothing.
use mathlib.Core.Path.{◌≡◌, refl, sym, ◌∙◌}
use mathlib.Core.Bool.{Bool, true, cond, not}
use Prim.Native.Nat.{ℕ, zero, suc, ◌+◌, ◌*◌, ◌/◌, ◌%◌, ◌^◌, ◌≤◌, ◌<◌}
use native.Mathlib.Nat.{lt_of_le_of_lt}
use native.Mathlib.Decide.{ℕ_discrete}
use native.Mathlib.Omega.{arith}
use lib.Dec.{eqb}
use lib.Bits.{bit_and, bit_xor, and_le_l, and_mask, and_mod, xor_lt}
use borrow.Author.Tests.{eqb-true, eq-eqb, ne_eqb}
use Rattle.ranges.specs.Ranges.{every, sum}
use Rattle.ranges.proofs.Tests.{every_below, every_ext}
use Rattle.digits.specs.Digits.{digit, put, pack}
use Rattle.digits.proofs.Digits.{digit_zero, digit_suc, digit_lt, digit_put_same, digit_put_other, put_lt, digits_equal}
use Rattle.digits.proofs.Packs.{pack_lt, pack_ext, pack_digits, digit_pack}
use Rattle.digits.proofs.Bits.{digit_and, digit_xor, digit_of_zero}
use Rattle.digits.proofs.Sizes.{three_pos}
use Rattle.gates.specs.declared.Gate.{Gate}
use Rattle.gates.specs.Gates.{act, holds, fires_on, applied}
use Rattle.gates.specs.Inner.Quads.{quad, Held}
use Rattle.gates.proofs.Operators.{act_lt}
use Rattle.gates.proofs.Gates.{applied_yes, applied_no}
use Rattle.gates.proofs.Bytes.{same, digits_agree}

-- ---- the number and back

line_lt : (p k : ℕ) → k < 6 → digit 3 k p < 4
line_lt p k lt = omega (arith, digit_lt 3 k p three_pos)

pub quad_lt : (p : ℕ) → quad p < 4 ^ 6
unfolding quad
quad_lt p = pack_lt 4 (λ k. digit 3 k p) 6 (line_lt p)

pub digit_quad : (p k : ℕ) → k < 6 → digit 4 k (quad p) ≡ digit 3 k p
unfolding quad
digit_quad p k lt = digit_pack 4 (λ k. digit 3 k p) 6 (line_lt p) k lt

pub quad_held : (p : ℕ) → Held (quad p)
quad_held p = record { low = quad_lt p; each = λ k lt. rw (digit_quad p k lt) (digit_lt 3 k p three_pos) }

pub quad_is : (p : ℕ) → p < 729 → p + (p / 3 + 4 * (p / 9 + 4 * (p / 27 + 4 * (p / 81 + 4 * (p / 243))))) ≡ quad p
unfolding every quad pack sum digit
quad_is p lt = eqb-true _ _ (every_below (λ p. eqb (p + (p / 3 + 4 * (p / 9 + 4 * (p / 27 + 4 * (p / 81 + 4 * (p / 243)))))) (quad p)) 729 refl p lt)

pub quad_back : (p q : ℕ) → p < 729 → q ≡ quad p → q % 4 + 3 * (q / 4 % 4) + 9 * (q / 16 % 4) + 27 * (q / 64 % 4) + 81 * (q / 256 % 4) + 243 * (q / 1024 % 4) ≡ p
unfolding pack sum
quad_back p q lt e =
    let is : q % 4 + 3 * (q / 4 % 4) + 9 * (q / 16 % 4) + 27 * (q / 64 % 4) + 81 * (q / 256 % 4) + 243 * (q / 1024 % 4) ≡ pack 3 (λ k. digit 4 k q) 6 = unfold digit in omega arith in
    is ∙ pack_ext 3 (λ k. digit 4 k q) (λ k. digit 3 k p) 6 (λ k l. rw e (digit_quad p k l)) ∙ pack_digits 3 6 p three_pos lt

-- a digit replaced in both
quad_put : (t p v : ℕ) → t < 6 → v < 3 → put 4 t (quad p) v ≡ quad (put 3 t p v)
quad_put t p v lt small =
    digits_equal 4 6 (put 4 t (quad p) v) (quad (put 3 t p v)) (omega arith) (put_lt 4 6 t (quad p) v (quad_lt p) lt (omega arith)) (quad_lt (put 3 t p v))
    (λ k l. go k l (ℕ_discrete k t) ∙ sym (digit_quad (put 3 t p v) k l))
  where
    go : (k : ℕ) → k < 6 → Dec (k ≡ t) → digit 4 k (put 4 t (quad p) v) ≡ digit 3 k (put 3 t p v)
    go k l (yes q) = rw (q, digit_put_same 4 t (quad p) v (omega arith), digit_put_same 3 t p v small)
    go k l (no ne) = rw (digit_put_other 4 k t (quad p) v (omega arith) ne, digit_put_other 3 k t p v small ne) (digit_quad p k l)

-- ---- when a gate fires

-- the lower bit of a digit, once the number is halved, is the digit's upper
half_digit : (k x : ℕ) → digit 4 k (x / 2) % 2 ≡ digit 4 k x / 2
half_digit zero x = rw (digit_zero, digit_zero) (omega arith)
half_digit (suc k) x =
    let same : x / 2 / 4 ≡ x / 4 / 2 = omega arith in
    rw (digit_suc, digit_suc, same) (half_digit k (x / 4))

-- three times a digit of 0 or 1 stays within it
triple_digit : (k x : ℕ) → ((j : ℕ) → j ≤ k → digit 4 j x ≤ 1) → digit 4 k (3 * x) ≡ 3 * digit 4 k x
triple_digit zero x few =
    let low : x % 4 ≤ 1 = rw digit_zero at (few 0 (omega arith)) in
    rw (digit_zero, digit_zero) (omega arith)
triple_digit (suc k) x few =
    let low : x % 4 ≤ 1 = rw digit_zero at (few 0 (omega arith)) in
    let up : 3 * x / 4 ≡ 3 * (x / 4) = omega arith in
    rw (digit_suc, digit_suc, up) (triple_digit k (x / 4) (λ j le. rw digit_suc at (few (suc j) (omega arith))))

-- a line has no control
none_value : (x : ℕ) → x < 4 → (bit_and (x % 2) (x / 2) ≡ cond (eqb x 3) 1 0) × (cond (eqb x 3) 1 0 ≤ 1)
none_value zero lt = (refl, omega arith)
none_value (suc zero) lt = (refl, omega arith)
none_value (suc (suc zero)) lt = (refl, omega arith)
none_value (suc (suc (suc zero))) lt = (refl, omega arith)
none_value (suc (suc (suc (suc x)))) lt = absurd (omega arith)

-- a control and a digit are looked at by the bits that differ, none of them where there is no control
hold_value : (c x : ℕ) → c < 4 → x < 4 → eqb (bit_and (bit_xor c x) (bit_xor 3 (3 * cond (eqb c 3) 1 0))) 0 ≡ holds c x
unfolding every holds
hold_value c x lc lx =
    let right : ℕ → ℕ → Bool = λ c x. cond (eqb (bit_and (bit_xor c x) (bit_xor 3 (3 * cond (eqb c 3) 1 0))) 0) (holds c x) (not (holds c x)) in
    let all : every (λ c. every (right c) 0 4) 0 4 ≡ true = refl in
    same _ _ (every_below (right c) 4 (every_below (λ c. every (right c) 0 4) 4 all c lc) x lx)

ones_digit : (k : ℕ) → k < 6 → (digit 4 k 1365 ≡ 1) × (digit 4 k 4095 ≡ 3)
unfolding every digit
ones_digit k lt =
    (eqb-true _ _ (every_below (λ k. eqb (digit 4 k 1365) 1) 6 refl k lt), eqb-true _ _ (every_below (λ k. eqb (digit 4 k 4095) 3) 6 refl k lt))

abbrev none_in : ℕ → ℕ
none_in c = bit_and (bit_and c (c / 2)) 1365

none_digit : (c k : ℕ) → k < 6 → digit 4 k (none_in c) ≡ cond (eqb (digit 4 k c) 3) 1 0
none_digit c k lt =
    let a : digit 4 k (none_in c) ≡ bit_and (digit 4 k (bit_and c (c / 2))) (digit 4 k 1365) = digit_and 2 k (bit_and c (c / 2)) 1365 in
    let b : digit 4 k (bit_and c (c / 2)) ≡ bit_and (digit 4 k c) (digit 4 k (c / 2)) = digit_and 2 k c (c / 2) in
    let one : bit_and (bit_and (digit 4 k c) (digit 4 k (c / 2))) 1 ≡ bit_and (digit 4 k c) (digit 4 k (c / 2)) % 2 = and_mask (bit_and (digit 4 k c) (digit 4 k (c / 2))) 1 in
    let both : bit_and (digit 4 k c) (digit 4 k (c / 2)) % 2 ≡ bit_and (digit 4 k c % 2) (digit 4 k (c / 2) % 2) = and_mod (digit 4 k c) (digit 4 k (c / 2)) 1 in
    rw (a, (ones_digit k lt).0, b, one, both, half_digit k c) (none_value (digit 4 k c) (digit_lt 4 k c (omega arith))).0

-- the bits of c and q that differ where there is a control
abbrev missed : ℕ → ℕ → ℕ
missed c q = bit_and (bit_xor c q) (bit_xor 4095 (3 * none_in c))

missed_digit : (c q k : ℕ) → k < 6 → eqb (digit 4 k (missed c q)) (digit 4 k 0) ≡ holds (digit 4 k c) (digit 4 k q)
missed_digit c q k lt =
    let a : digit 4 k (missed c q) ≡ bit_and (digit 4 k (bit_xor c q)) (digit 4 k (bit_xor 4095 (3 * none_in c))) = digit_and 2 k (bit_xor c q) (bit_xor 4095 (3 * none_in c)) in
    let x : digit 4 k (bit_xor c q) ≡ bit_xor (digit 4 k c) (digit 4 k q) = digit_xor 2 k c q in
    let y : digit 4 k (bit_xor 4095 (3 * none_in c)) ≡ bit_xor (digit 4 k 4095) (digit 4 k (3 * none_in c)) = digit_xor 2 k 4095 (3 * none_in c) in
    let few : (j : ℕ) → j ≤ k → digit 4 j (none_in c) ≤ 1 = λ j le. rw (none_digit c j (omega arith)) (none_value (digit 4 j c) (digit_lt 4 j c (omega arith))).1 in
    rw (a, x, y, (ones_digit k lt).1, triple_digit k (none_in c) few, none_digit c k lt, digit_of_zero 4 k (omega arith))
    (hold_value (digit 4 k c) (digit 4 k q) (digit_lt 4 k c (omega arith)) (digit_lt 4 k q (omega arith)))

fires_quad : (c p : ℕ) → c < 4 ^ 6 → eqb (missed c (quad p)) 0 ≡ fires_on 3 c p
unfolding fires_on
fires_quad c p lt =
    digits_agree 4 6 (missed c (quad p)) 0 (λ k. holds (digit 4 k c) (digit 4 k (quad p))) (omega arith)
    (lt_of_le_of_lt (and_le_l (bit_xor c (quad p)) (bit_xor 4095 (3 * none_in c))) (xor_lt 12 c (quad p) lt (quad_lt p))) (omega arith) (missed_digit c (quad p))
    ∙ every_ext (λ k. holds (digit 4 k c) (digit 4 k (quad p))) (λ k. holds (digit 4 k c) (digit 3 k p)) 0 6 (λ k le l. rw (digit_quad p k l))

-- ---- what it does

module _ (g : Gate) (p q : ℕ) (packed : g.controls < 4 ^ 6) (e : q ≡ quad p) where
  pub quad_stays : (missed g.controls q ≡ 0 → ⊥) → q ≡ quad (applied g p)
  quad_stays ne = rw (applied_no g p (sym (fires_quad g.controls p packed) ∙ ne_eqb (missed g.controls (quad p)) 0 (rw e at ne))) e

  pub quad_moves : missed g.controls q ≡ 0 → g.target < 6 → put 4 g.target q (act g.operator (digit 4 g.target q)) ≡ quad (applied g p)
  quad_moves none lt =
      rw (e, digit_quad p g.target lt, applied_yes g p (sym (fires_quad g.controls p packed) ∙ eq-eqb (missed g.controls (quad p)) 0 (rw e at none)))
      (quad_put g.target p (act g.operator (digit 3 g.target p)) lt (act_lt g.operator (digit 3 g.target p)))
