-- The bits of words: an operation of words is one of their bits (`on_and`, `on_chosen`, `on_neither`), and so one of planes is one of their inputs. A plane of
-- words with all bits has every input (`all_in`), one of zeros none (`none_in`), and `input_joined` says what a plane has once an input has joined it.
-- Assumes nothing.
use Rattle.std.proofs.Common.{◌≡◌, refl, ap, ◌∙◌, Bool, true, false, cond, not, ◌&&◌, ◌||◌, List, ℕ, zero, suc, ◌-◌, ◌*◌, ◌/◌, ◌%◌, ◌^◌, ◌<◌, length, get_or, set, replicate, arith, bit_and, bit_or, bit_xor, eqb, eq-eqb, ne_eqb}
use Rattle.std.specs.Int.{w64}
use Rattle.std.proofs.lemmas.Nat.{or_lt}
use Rattle.std.proofs.lemmas.Nat.Bits.{bit_at-zero, bit_at_ones, bit_at_not, bit_at_set_same, bit_at_set_other}
use Rattle.std.proofs.lemmas.List.{get_or-replicate, get_or-set_same, get_or-set_other}
use Rattle.std.proofs.Math.Bool.{xor, or-true, or-false}
use Rattle.std.proofs.Math.Decide.{ℕ_discrete}
use Rattle.digits.specs.Digits.{digit}
use Rattle.digits.proofs.Bits.{digit_and, digit_or, digit_xor}
use Rattle.digits.proofs.Digits.{digit_lt}
use Rattle.tabulating.specs.Inner.Planes.{bit_on, member}

-- what holds at 0 and 1 holds at every bit
two : (P : ℕ → Type 0) → P 0 → P 1 → (x : ℕ) → x < 2 → P x
two P a b zero l = a
two P a b (suc zero) l = b
two P a b (suc (suc x)) l = absurd (omega arith)

bit_lt : (i w : ℕ) → digit 2 i w < 2
bit_lt i w = digit_lt 2 i w (omega arith)

-- a bit as a number
pub bit_value : (i w : ℕ) → digit 2 i w ≡ cond (bit_on i w) 1 0
unfolding bit_on
bit_value i w = two (λ x. x ≡ cond (eqb x 1) 1 0) refl refl (digit 2 i w) (bit_lt i w)

-- an operation that goes bit by bit is known by what it does to 0 and 1
module _ (op : ℕ → ℕ → ℕ) (test : Bool → Bool → Bool)
    (each : (i a b : ℕ) → digit 2 i (op a b) ≡ op (digit 2 i a) (digit 2 i b))
    (ff : eqb (op 0 0) 1 ≡ test false false) (ft : eqb (op 0 1) 1 ≡ test false true)
    (tf : eqb (op 1 0) 1 ≡ test true false) (tt : eqb (op 1 1) 1 ≡ test true true) where
  on_op : (i a b : ℕ) → bit_on i (op a b) ≡ test (bit_on i a) (bit_on i b)
  unfolding bit_on
  on_op i a b =
      rw (each i a b)
      (two (λ x. eqb (op x (digit 2 i b)) 1 ≡ test (eqb x 1) (eqb (digit 2 i b) 1))
      (two (λ y. eqb (op 0 y) 1 ≡ test false (eqb y 1)) ff ft (digit 2 i b) (bit_lt i b))
      (two (λ y. eqb (op 1 y) 1 ≡ test true (eqb y 1)) tf tt (digit 2 i b) (bit_lt i b))
      (digit 2 i a) (bit_lt i a))

pub on_and : (i a b : ℕ) → bit_on i (bit_and a b) ≡ (bit_on i a && bit_on i b)
on_and = on_op bit_and ◌&&◌ (digit_and 1) refl refl refl refl

on_or : (i a b : ℕ) → bit_on i (bit_or a b) ≡ (bit_on i a || bit_on i b)
on_or = on_op bit_or ◌||◌ (digit_or 1) refl refl refl refl

on_xor : (i a b : ℕ) → bit_on i (bit_xor a b) ≡ xor (bit_on i a) (bit_on i b)
unfolding xor
on_xor = on_op bit_xor xor (digit_xor 1) refl refl refl refl

-- the bits of one word where the first has its bit, and of the other elsewhere
pub on_chosen : (i f m o : ℕ) → bit_on i (bit_xor (bit_and (bit_xor m o) f) o) ≡ cond (bit_on i f) (bit_on i m) (bit_on i o)
unfolding xor
on_chosen i f m o = rw (on_xor, on_and, on_xor) (go (bit_on i f) (bit_on i m) (bit_on i o))
  where
    go : (f m o : Bool) → xor (xor m o && f) o ≡ cond f m o
    go true true true = refl
    go true true false = refl
    go true false true = refl
    go true false false = refl
    go false true true = refl
    go false true false = refl
    go false false true = refl
    go false false false = refl

-- ---- all bits, none, and one

on_all : (i : ℕ) → i < 64 → bit_on i 0xffff_ffff_ffff_ffff ≡ true
unfolding bit_on digit
on_all i lt = ap (λ x. eqb x 1) (bit_at_ones 64 i lt)

on_zero : (i : ℕ) → bit_on i 0 ≡ false
unfolding bit_on digit
on_zero i = ap (λ x. eqb x 1) (bit_at-zero i)

-- the bits that a word has not
on_not : (i a : ℕ) → a < 2 ^ 64 → i < 64 → bit_on i (0xffff_ffff_ffff_ffff - a) ≡ not (bit_on i a)
unfolding bit_on digit
on_not i a fits lt = rw (bit_at_not w64 a i fits lt) (two (λ x. eqb (1 - x) 1 ≡ not (eqb x 1)) refl refl (digit 2 i a) (bit_lt i a))

-- those that neither word has
pub on_neither : (i a b : ℕ) → a < 2 ^ 64 → b < 2 ^ 64 → i < 64 → bit_on i (0xffff_ffff_ffff_ffff - bit_or a b) ≡ not (bit_on i a || bit_on i b)
on_neither i a b la lb lt = on_not i (bit_or a b) (or_lt 64 a b la lb) lt ∙ ap not (on_or i a b)

-- a word that bit k has joined
module _ (a k : ℕ) (lt : k < 64) where
  abbrev with_bit : ℕ
  with_bit = bit_or a (1 * 2 ^ k % 0x1_0000_0000_0000_0000)

  on_here : bit_on k with_bit ≡ true
  unfolding bit_on digit
  on_here = ap (λ x. eqb x 1) (bit_at_set_same w64 a k lt)

  on_there : (i : ℕ) → (i ≡ k → ⊥) → bit_on i with_bit ≡ bit_on i a
  unfolding bit_on digit
  on_there i ne = ap (λ x. eqb x 1) (bit_at_set_other w64 a k lt i ne)

-- ---- planes

pub all_in : (p : ℕ) → p < 768 → member (replicate 12 0xffff_ffff_ffff_ffff) p ≡ true
all_in p lt = rw (get_or-replicate {A = ℕ} 12 (p / 64) 0xffff_ffff_ffff_ffff 0 (omega arith)) (on_all (p % 64) (omega arith))

pub none_in : (p : ℕ) → p < 768 → member (replicate 12 0) p ≡ false
none_in p lt = rw (get_or-replicate {A = ℕ} 12 (p / 64) 0 0 (omega arith)) (on_zero (p % 64))

module _ (b : List ℕ) (p q : ℕ) (lt : p / 64 < length b) where
  abbrev word : ℕ
  word = with_bit (get_or b (p / 64) 0) (p % 64) (omega arith)

  joined : Dec (q / 64 ≡ p / 64) → Dec (q % 64 ≡ p % 64) → member (set b (p / 64) word) q ≡ (member b q || eqb q p)
  joined (yes e) (yes f) =
      let same : q ≡ p = omega arith in
      rw (same, eq-eqb p p refl, or-true, get_or-set_same b (p / 64) word 0 lt) (on_here _ _ (omega arith))
  joined (yes e) (no f) =
      let other : q ≡ p → ⊥ = λ s. f (ap (λ (x : ℕ). x % 64) s) in
      rw (ne_eqb q p other, or-false, e, get_or-set_same b (p / 64) word 0 lt) (on_there _ _ (omega arith) (q % 64) f)
  joined (no d) _ =
      let other : q ≡ p → ⊥ = λ s. d (ap (λ (x : ℕ). x / 64) s) in
      rw (ne_eqb q p other, or-false, get_or-set_other b (p / 64) (q / 64) word 0 d)

  pub input_joined : member (set b (p / 64) (bit_or (get_or b (p / 64) 0) (1 * 2 ^ (p % 64) % 0x1_0000_0000_0000_0000))) q ≡ (member b q || eqb q p)
  input_joined = joined (ℕ_discrete (q / 64) (p / 64)) (ℕ_discrete (q % 64) (p % 64))
