-- Records as numbers: the bytes of a word, and the tests that look at all of them at once. What is finite is computed: a byte has 256 values, a board
-- at most six lines. Assumes nothing.
use mathlib.Core.Path.{◌≡◌, refl, sym, ap, ap₂, ◌∙◌}
use mathlib.Core.Bool.{Bool, true, false, cond, not, ◌&&◌, ◌||◌, and-false}
use mathlib.Core.List.{List, [], ◌∷◌}
use mathlib.Core.Logic.{◌⊎◌}
use Prim.Native.Nat.{ℕ, zero, suc, ◌+◌, ◌-◌, ◌*◌, ◌/◌, ◌%◌, ◌^◌, ◌≤◌, ◌<◌}
use native.Mathlib.Nat.{div-one, add-zero, add_assoc, lt_of_le_of_lt}
use native.Mathlib.Omega.{arith}
use lib.Dec.{eqb, leb, ltb}
use lib.ListN.{length, get_or, take, drop}
use lib.Seq.{get_or-take, get_or-drop}
use lib.Bits.{bit_and, bit_xor, and_le_r, and_zero_r, xor_zero_r, xor_block}
use borrow.Author.Tests.{eqb-true, leb-true, ltb-true, eq-eqb, le-leb, lt-leb, lt-ltb, le-ltb}
use Rattle.std.specs.Int.{w64, to_le_bytes}
use Rattle.ranges.specs.Ranges.{every, sum}
use Rattle.ranges.proofs.Bools.{and_right, decide}
use Rattle.ranges.proofs.Tests.{every_below, every_of, every_ext}
use Rattle.digits.specs.Digits.{digit, pack}
use Rattle.digits.proofs.Digits.{digit_zero, digit_suc, digit_lt, digits_equal, shift_digits, low_div, low_mod}
use Rattle.digits.proofs.Packs.{pack_ext, pack_lt, digit_pack}
use Rattle.digits.proofs.Bits.{digit_and}
use Rattle.gates.specs.Gates.{inverse_op}
use Rattle.gates.specs.Records.{line_ok, lines_ok_at, packed_at, is_record, gate_at}
use Rattle.std.specs.Prelude.{Ok, Err}
use Rattle.card.specs.declared.Refusal.{Refusal}
use Rattle.gates.specs.Inner.Decoding.{decoded}
use Rattle.card.specs.Card.{lines_ok}
use Rattle.gates.proofs.Operators.{inverse_bits}
use Rattle.gates.proofs.Records.{reads, line_lt}
use Rattle.gates.specs.Inner.Words.{byte, Word, bytes_in, lines_ok_in, is_word, gate_of, bare, LowControls}

-- ---- what is computed

-- two truth values that agree
pub same : (a b : Bool) → cond a b (not b) ≡ true → a ≡ b
same true true e = refl
same true false e = sym e
same false true e = e
same false false e = refl

pub weight_is : (k : ℕ) → k ≤ 6 → (1 * 2 ^ (8 * k)) % 18446744073709551616 ≡ 256 ^ k
unfolding every
weight_is k le = eqb-true _ _ (every_below (λ k. eqb ((1 * 2 ^ (8 * k)) % 18446744073709551616) (256 ^ k)) 7 refl k (omega arith))

pub weight_most : (k : ℕ) → k < 6 → 256 ^ k ≤ 1099511627776
unfolding every
weight_most k lt = leb-true _ _ (every_below (λ k. leb (256 ^ k) 1099511627776) 6 refl k lt)

pub eight_bits : (t : ℕ) → t ≤ 6 → 2 ^ (8 * t) ≡ 256 ^ t
unfolding every
eight_bits t le = eqb-true _ _ (every_below (λ t. eqb (2 ^ (8 * t)) (256 ^ t)) 7 refl t (omega arith))

pub weight_some : (k : ℕ) → k ≤ 6 → 1 ≤ 256 ^ k
unfolding every
weight_some k le = leb-true _ _ (every_below (λ k. leb 1 (256 ^ k)) 7 refl k (omega arith))

-- two tests that agree on each byte
bytes_agree : (f g : ℕ → Bool) → every (λ x. cond (f x) (g x) (not (g x))) 0 256 ≡ true → (x : ℕ) → x < 256 → f x ≡ g x
bytes_agree f g e x lt = same (f x) (g x) (every_below (λ x. cond (f x) (g x) (not (g x))) 256 e x lt)

-- a byte of a word that is asked for the bits of `kept`: nothing is asked of the first two, and of a control that it is 3 or that it is below 4
byte_right : (head none : Bool) (x : ℕ) → x < 256 → eqb (bit_and x (cond head 0 (cond none 255 252))) (cond head 0 (cond none 3 0)) ≡ (head || cond none (eqb x 3) (leb x 3))
unfolding every
byte_right true none = λ x lt. rw and_zero_r
byte_right false true = bytes_agree (λ x. eqb (bit_and x 255) 3) (λ x. eqb x 3) refl
byte_right false false = bytes_agree (λ x. eqb (bit_and x 252) 0) (λ x. leb x 3) refl

-- ---- bytes by place

pub byte_one : (w : ℕ) → byte 1 w ≡ w / 256 % 256
byte_one w = rw (digit_suc, digit_zero)

pub operator_word : (w : ℕ) → (gate_of w).operator ≡ w % 256
unfolding gate_of
operator_word w = digit_zero 256 w

pub target_word : (w : ℕ) → (gate_of w).target ≡ w / 256 % 256
unfolding gate_of
target_word w = byte_one w

-- the six control bytes alone
pub byte_high : (k w : ℕ) → byte k (w / 65536) ≡ byte (2 + k) w
byte_high k w =
    let two : 2 + k ≡ suc (suc k) = omega arith in
    let same : w / 256 / 256 ≡ w / 65536 = omega arith in
    rw (two, digit_suc, digit_suc, same)

-- its 8 bytes, as they are stored
pub byte_in : (w k : ℕ) → k < 8 → get_or (bytes_in w) k 0 ≡ byte k w
unfolding bytes_in
byte_in w zero lt = refl
byte_in w (suc zero) lt = refl
byte_in w (suc (suc zero)) lt = refl
byte_in w (suc (suc (suc zero))) lt = refl
byte_in w (suc (suc (suc (suc zero)))) lt = refl
byte_in w (suc (suc (suc (suc (suc zero))))) lt = refl
byte_in w (suc (suc (suc (suc (suc (suc zero)))))) lt = refl
byte_in w (suc (suc (suc (suc (suc (suc (suc zero))))))) lt = refl
byte_in w (suc (suc (suc (suc (suc (suc (suc (suc k)))))))) lt = absurd (omega arith)

-- they are those that std writes
pub bytes_are : (w : ℕ) → to_le_bytes w64 w ≡ bytes_in w
unfolding bytes_in digit
bytes_are w = simp div-one

pub length_word : (w : ℕ) → length (bytes_in w) ≡ 8
unfolding bytes_in
length_word w = refl

-- two numbers of m digits are equal exactly if a test holds of each digit that says so of the digit
pub digits_agree : (r m x y : ℕ) (f : ℕ → Bool) → 0 < r → x < r ^ m → y < r ^ m → ((k : ℕ) → k < m → eqb (digit r k x) (digit r k y) ≡ f k) → eqb x y ≡ every f 0 m
digits_agree r m x y f pos lx ly h = go (decide (eqb x y)) (decide (every f 0 m))
  where
    go : (eqb x y ≡ true) ⊎ (eqb x y ≡ false) → (every f 0 m ≡ true) ⊎ (every f 0 m ≡ false) → eqb x y ≡ every f 0 m
    go (◌⊎◌.inl e) q = e ∙ sym (every_of f m (λ k lt. sym (h k lt) ∙ eq-eqb (digit r k x) (digit r k y) (ap (digit r k) (eqb-true x y e))))
    go (◌⊎◌.inr e) (◌⊎◌.inl q) = eq-eqb x y (digits_equal r m x y pos lx ly (λ k lt. eqb-true (digit r k x) (digit r k y) (h k lt ∙ every_below f m q k lt))) ∙ sym q
    go (◌⊎◌.inr e) (◌⊎◌.inr q) = e ∙ sym q

-- the bits that are asked of the control bytes of a gate on n lines with target t
abbrev kept : ℕ → ℕ → ℕ
kept n t = 18229723555195256832 + bare n t

-- a test of each byte that holds on every board
boards : (f : ℕ → ℕ → ℕ → Bool) → every (λ n. every (λ t. cond (ltb t n) (every (f n t) 0 8) true) 0 6) 0 7 ≡ true → (n t : ℕ) → n ≤ 6 → t < n → (k : ℕ) → k < 8 → f n t k ≡ true
boards f all n t six on k lt =
    let one = every_below (λ t. cond (ltb t n) (every (f n t) 0 8) true) 6 (every_below (λ n. every (λ t. cond (ltb t n) (every (f n t) 0 8) true) 0 6) 7 all n (omega arith)) t (omega arith) in
    every_below (f n t) 8 (rw (lt-ltb t n on) at one) k lt

-- byte k is that of a line that can have no control
abbrev none : ℕ → ℕ → ℕ → Bool
none n t k = eqb (k - 2) t || leb n (k - 2)

module _ (n t : ℕ) (six : n ≤ 6) (on : t < n) where
  bare_byte : (k : ℕ) → k < 8 → byte k (bare n t) ≡ cond (ltb k 2) 0 (cond (none n t k) 3 0)
  unfolding every digit bare
  bare_byte k lt = eqb-true _ _ (boards (λ n t k. eqb (byte k (bare n t)) (cond (ltb k 2) 0 (cond (none n t k) 3 0))) refl n t six on k lt)

  kept_byte : (k : ℕ) → k < 8 → byte k (kept n t) ≡ cond (ltb k 2) 0 (cond (none n t k) 255 252)
  unfolding every digit bare
  kept_byte k lt = eqb-true _ _ (boards (λ n t k. eqb (byte k (kept n t)) (cond (ltb k 2) 0 (cond (none n t k) 255 252))) refl n t six on k lt)

  pub kept_lt : kept n t < 256 ^ 8
  unfolding every bare
  kept_lt = ltb-true _ _ (boards (λ n t k. ltb (kept n t) (256 ^ 8)) refl n t six on 0 (omega arith))

  -- all control bytes at once
  pub lines_asked : (w : ℕ) → eqb (bit_and w (kept n t)) (bare n t) ≡ lines_ok_in n t w
  unfolding lines_ok_in line_ok every
  lines_asked w =
      digits_agree 256 8 (bit_and w (kept n t)) (bare n t) (λ k. ltb k 2 || line_ok n t (k - 2) (byte k w)) (omega arith) (lt_of_le_of_lt (and_le_r w (kept n t)) kept_lt)
      (omega (arith, kept_lt)) each
    where
      each : (k : ℕ) → k < 8 → eqb (byte k (bit_and w (kept n t))) (byte k (bare n t)) ≡ (ltb k 2 || line_ok n t (k - 2) (byte k w))
      each k lt =
          let a : digit 256 k (bit_and w (kept n t)) ≡ bit_and (byte k w) (byte k (kept n t)) = digit_and 8 k w (kept n t) in
          rw (a, kept_byte k lt, bare_byte k lt) (byte_right (ltb k 2) (none n t k) (byte k w) (digit_lt 256 k w (omega arith)))

-- ---- a word put together

-- 8 bytes of a part of a list, read as one number, the first lowest
pub word_read : (b part : List ℕ) (at w : ℕ) → ((k : ℕ) → get_or b k 0 < 256) → part ≡ take (at + 8 - at) (drop at b)
    → w
    ≡ get_or part 0 0 + get_or part 1 0 * 256 + get_or part 2 0 * 65536 + get_or part 3 0 * 16777216 + get_or part 4 0 * 4294967296 + get_or part 5 0 * 1099511627776 + get_or part 6 0 * 281474976710656 + get_or part 7 0 * 72057594037927936
    → Word b at w
unfolding pack sum
word_read b part at w small is e =
    let f : ℕ → ℕ = λ k. get_or b (at + k) 0 in
    let there : (k : ℕ) → k < 8 → get_or part k 0 ≡ f k = λ k lt. rw is (get_or-take (at + 8 - at) (drop at b) k 0 (omega arith)) ∙ get_or-drop at b k 0 in
    let packed : w ≡ pack 256 f 8 =
    omega (arith, e, there 0 (omega arith), there 1 (omega arith), there 2 (omega arith), there 3 (omega arith), there 4 (omega arith), there 5 (omega arith), there 6 (omega arith), there 7 (omega arith)) in
    record {
      low = rw packed (pack_lt 256 f 8 (λ k lt. small (at + k)));
      bytes = λ k lt. rw packed (digit_pack 256 f 8 (λ k lt. small (at + k)) k lt);
    }

-- a byte below the bytes of q
low_byte : (x q : ℕ) → x < 256 → byte 0 (x + 256 * q) ≡ x
low_byte x q lt = rw (digit_zero, low_mod q lt)

next_byte : (k x q : ℕ) → x < 256 → byte (suc k) (x + 256 * q) ≡ byte k q
next_byte k x q lt = rw (digit_suc, low_div q lt)

-- a word with another lowest byte
pub low_replaced : (x w : ℕ) → x < 256 → bytes_in (x + 256 * (w / 256)) ≡ x ∷ byte 1 w ∷ byte 2 w ∷ byte 3 w ∷ byte 4 w ∷ byte 5 w ∷ byte 6 w ∷ byte 7 w ∷ []
unfolding bytes_in
low_replaced x w lt =
    let next : (k : ℕ) → byte (suc k) (x + 256 * (w / 256)) ≡ byte (suc k) w = λ k. next_byte k x (w / 256) lt ∙ sym (digit_suc 256 k w) in
    rw (low_byte x (w / 256) lt, next 0, next 1, next 2, next 3, next 4, next 5, next 6)

-- bits of the lowest byte turned over
low_xor : (x q m : ℕ) → x < 256 → m < 256 → bit_xor (x + 256 * q) m ≡ bit_xor x m + 256 * q
low_xor x q m lx lm =
    let whole : x + 256 * q ≡ q * 2 ^ 8 + x = omega arith in
    let low : m ≡ 0 * 2 ^ 8 + m = omega arith in
    let at_once = xor_block 8 q 0 x m lx lm in
    ap₂ bit_xor whole low ∙ at_once ∙ rw xor_zero_r (omega arith)

-- the operator's inverse in its place
pub inverse_word : (w : ℕ) → 1 ≤ byte 0 w → byte 0 w ≤ 5 → bit_xor w (3 * ((w % 8 + 5) / 4 % 2)) ≡ inverse_op (byte 0 w) + 256 * (w / 256)
inverse_word w lo hi =
    let x : ℕ = byte 0 w in
    let whole : w ≡ x + 256 * (w / 256) = omega (arith, digit_zero 256 w) in
    let low : w % 8 ≡ x % 8 = omega (arith, whole) in
    let m : ℕ = 3 * ((x % 8 + 5) / 4 % 2) in
    rw low (ap (λ (y : ℕ). bit_xor y m) whole ∙ low_xor x (w / 256) m (omega (arith, hi)) (omega arith) ∙ rw (inverse_bits x lo hi))

module _ (a b c0 c1 c2 c3 c4 c5 : ℕ) (la : a < 256) (lb : b < 256) (l0 : c0 < 256) (l1 : c1 < 256) (l2 : c2 < 256) (l3 : c3 < 256) (l4 : c4 < 256) (l5 : c5 < 256) where
  pub eight_bytes : bytes_in (a + 256 * (b + 256 * (c0 + 256 * (c1 + 256 * (c2 + 256 * (c3 + 256 * (c4 + 256 * c5))))))) ≡ a ∷ b ∷ c0 ∷ c1 ∷ c2 ∷ c3 ∷ c4 ∷ c5 ∷ []
  unfolding bytes_in
  eight_bytes =
      let last : byte 0 c5 ≡ c5 = rw digit_zero (omega arith) in
      simp (low_byte, next_byte 0, next_byte 1, next_byte 2, next_byte 3, next_byte 4, next_byte 5, next_byte 6, last)

-- ---- a word against the bytes it was read from

module _ (b : List ℕ) (at w : ℕ) (read : Word b at w) where
  -- byte 2 + k of the word is byte at + 2 + k
  pub control_byte : (k : ℕ) → k < 6 → byte (2 + k) w ≡ get_or b (at + 2 + k) 0
  control_byte k lt = rw (add_assoc at 2 k) (read.bytes (2 + k) (omega arith))

  operator_byte : byte 0 w ≡ get_or b at 0
  operator_byte = rw add-zero at (read.bytes 0 (omega arith))

  -- a gate's operator is one of the five
  pub operator_is : (n : ℕ) → is_record n b at ≡ true → (1 ≤ byte 0 w) × (byte 0 w ≤ 5)
  operator_is n e =
      let r = reads n b at e in
      (rw operator_byte r.op_low, rw operator_byte r.op_high)

  pub word_is : (n : ℕ) → at + 8 ≤ length b → is_record n b at ≡ is_word n w
  unfolding is_record is_word lines_ok_at lines_ok_in
  word_is n fits =
      let lines : (t : ℕ) → every (λ k. line_ok n t k (byte (2 + k) w)) 0 6 ≡ every (λ k. line_ok n t k (get_or b (at + 2 + k) 0)) 0 6 =
      λ t. every_ext (λ k. line_ok n t k (byte (2 + k) w)) (λ k. line_ok n t k (get_or b (at + 2 + k) 0)) 0 6 (λ k le lt. ap (line_ok n t k) (control_byte k lt)) in
      rw (le-leb (at + 8) (length b) fits, operator_byte, read.bytes 1 (omega arith), lines (get_or b (at + 1) 0))

  pub word_gate : gate_at b at ≡ gate_of w
  unfolding gate_at gate_of packed_at
  word_gate =
      let c : pack 4 (λ k. get_or b (at + 2 + k) 0) 6 ≡ pack 4 (λ k. byte (2 + k) w) 6 =
      pack_ext 4 (λ k. get_or b (at + 2 + k) 0) (λ k. byte (2 + k) w) 6 (λ k lt. sym (control_byte k lt)) in
      let o = operator_byte in
      let t = read.bytes 1 (omega arith) in
      λ i. record { operator = sym o i; target = sym t i; controls = c i }

  -- decoding by the word
  pub word_decoded : (n : ℕ) → lines_ok n ≡ true → at + 8 ≤ length b → decoded n b at ≡ cond (is_word n w) (Ok (gate_of w)) (Err (Refusal.NoGate at))
  unfolding decoded
  word_decoded n six fits = rw (six, word_is n fits, word_gate)

-- ---- its control bytes packed

-- three packed controls, a byte each: times 4161
pub three_spread : (x : ℕ) → x < 64 → bit_and (x * 4161) 197379 ≡ x % 4 + 256 * (x / 4 % 4) + 65536 * (x / 16 % 4)
unfolding every
three_spread x lt = eqb-true _ _ (every_below (λ x. eqb (bit_and (x * 4161) 197379) (x % 4 + 256 * (x / 4 % 4) + 65536 * (x / 16 % 4))) 64 refl x lt)

three_low : (q r s : ℕ) → q ≡ r + 64 * s → (r % 4 ≡ q % 4) × (r / 4 % 4 ≡ q / 4 % 4) × (r / 16 % 4 ≡ q / 16 % 4)
three_low q r s e = (omega arith, omega arith, omega arith)

pub word_spread : (o t c low high : ℕ) → low ≡ c % 64 % 4 + 256 * (c % 64 / 4 % 4) + 65536 * (c % 64 / 16 % 4)
    → high ≡ c / 64 % 64 % 4 + 256 * (c / 64 % 64 / 4 % 4) + 65536 * (c / 64 % 64 / 16 % 4)
    → o + 256 * (t + 256 * (low + 16777216 * high))
    ≡ o + 256 * (t + 256 * (c / 1 % 4 + 256 * (c / 4 % 4 + 256 * (c / 16 % 4 + 256 * (c / 64 % 4 + 256 * (c / 256 % 4 + 256 * (c / 1024 % 4)))))))
word_spread o t c low high el eh =
    let first = three_low c (c % 64) (c / 64) (omega arith) in
    let second = three_low (c / 64) (c / 64 % 64) (c / 64 / 64) (omega arith) in
    let q4 : c / 64 / 4 ≡ c / 256 = omega arith in
    let q16 : c / 64 / 16 ≡ c / 1024 = omega arith in
    rw (el, eh, first.0, first.1, first.2, second.0, second.1, second.2, q4, q16, div-one) (omega arith)

-- three of them, times 4161
three_packed : (a b c x : ℕ) → a < 4 → b < 4 → c < 4 → x ≡ a + 256 * b + 65536 * c → 4161 * x / 4096 % 64 ≡ a + 4 * b + 16 * c
unfolding every
three_packed a b c x la lb lc e =
    let right : ℕ → ℕ → ℕ → Bool = λ a b c. eqb (4161 * (a + 256 * b + 65536 * c) / 4096 % 64) (a + 4 * b + 16 * c) in
    let all : every (λ a. every (λ b. every (right a b) 0 4) 0 4) 0 4 ≡ true = refl in
    rw e (eqb-true _ _ (every_below (right a b) 4 (every_below (λ b. every (right a b) 0 4) 4 (every_below (λ a. every (λ b. every (right a b) 0 4) 0 4) 4 all a la) b lb) c lc))

-- three bytes from byte j on
three_bytes : (j w q : ℕ) → q ≡ w / 256 ^ j → q % 16777216 ≡ byte (j + 0) w + 256 * byte (j + 1) w + 65536 * byte (j + 2) w
three_bytes j w q e =
    let three : q % 16777216 ≡ byte 0 q + 256 * byte 1 q + 65536 * byte 2 q = unfold digit in omega arith in
    three ∙ rw (shift_digits 256 j 0 w q e, shift_digits 256 j 1 w q e, shift_digits 256 j 2 w q e)

pub packed_bytes : (w : ℕ) → LowControls w → w < 256 ^ 8
    → 4161 * (w / 65536 % 16777216) / 4096 % 64 + 64 * (4161 * (w / 1099511627776) / 4096 % 64) ≡ pack 4 (λ k. byte (2 + k) w) 6
unfolding pack sum
packed_bytes w low lt =
    let small : (k : ℕ) → k < 6 → byte (2 + k) w < 4 = low.each in
    let first = three_bytes 2 w (w / 65536) refl in
    let all : w / 1099511627776 ≡ w / 1099511627776 % 16777216 = omega arith in
    let second = all ∙ three_bytes 5 w (w / 1099511627776) refl in
    rw (three_packed (byte 2 w) (byte 3 w) (byte 4 w) _ (small 0 (omega arith)) (small 1 (omega arith)) (small 2 (omega arith)) first, three_packed (byte 5 w) (byte 6 w) (byte 7 w) _ (small 3 (omega arith)) (small 4 (omega arith)) (small 5 (omega arith)) second)
    (omega arith)

-- ---- which gate a word is, or none

module _ (n w : ℕ) where
  -- which of its tests a word fails first, or that the control bytes decide
  pub word_op_low : w % 256 < 1 → is_word n w ≡ false
  unfolding is_word
  word_op_low low = rw (digit_zero, lt-leb 1 (w % 256) low)

  pub word_op_high : 5 < w % 256 → is_word n w ≡ false
  unfolding is_word
  word_op_high high = rw (digit_zero, lt-leb (w % 256) 5 high, and-false)

  pub word_target : n ≤ w / 256 % 256 → is_word n w ≡ false
  unfolding is_word
  word_target off = rw (byte_one, le-ltb (w / 256 % 256) n off, and-false)

  pub word_lines : 1 ≤ w % 256 → w % 256 ≤ 5 → w / 256 % 256 < n → is_word n w ≡ lines_ok_in n (w / 256 % 256) w
  unfolding is_word
  word_lines low high on = rw (digit_zero, byte_one, le-leb 1 (w % 256) low, le-leb (w % 256) 5 high, lt-ltb (w / 256 % 256) n on)

  -- a gate's control bytes are below 4
  pub word_low : is_word n w ≡ true → LowControls w
  unfolding is_word lines_ok_in
  word_low e =
      let t : ℕ = byte 1 w in
      record {
        each = λ k lt. line_lt n t k (byte (2 + k) w)
            (every_below (λ k. line_ok n t k (byte (2 + k) w)) 6 (and_right ((leb 1 (byte 0 w) && leb (byte 0 w) 5) && ltb (byte 1 w) n) (every (λ k. line_ok n t k (byte (2 + k) w)) 0 6) e) k lt);
      }
