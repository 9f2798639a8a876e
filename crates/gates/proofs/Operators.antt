-- The operators: document 01's table, their range, and that the inverse takes an operator back. Assumes nothing.
use mathlib.Core.Path.{◌≡◌, refl}
use mathlib.Core.List.{[], ◌∷◌, map}
use Prim.Native.Nat.{ℕ, zero, suc, ◌+◌, ◌*◌, ◌/◌, ◌%◌, ◌≤◌, ◌<◌}
use native.Mathlib.Nat.{mod-lt}
use native.Mathlib.Omega.{arith}
use lib.Dec.{ltb}
use lib.Bits.{bit_xor}
use Rattle.ranges.proofs.Bools.{cond_lt}
use Rattle.digits.proofs.ThreeCases.{three}
use Rattle.gates.specs.Gates.{act, inverse_op}

-- the definition is the printed table: a row for each of x = 0, 1, 2, a column for each of C1 C2 N D E
pub printed : map (λ x. map (λ o. act o x) (1 ∷ 2 ∷ 3 ∷ 4 ∷ 5 ∷ [])) (0 ∷ 1 ∷ 2 ∷ [])
    ≡ (1 ∷ 2 ∷ 2 ∷ 0 ∷ 1 ∷ [])
    ∷ (2 ∷ 0 ∷ 1 ∷ 2 ∷ 0 ∷ [])
    ∷ (0 ∷ 1 ∷ 0 ∷ 1 ∷ 2 ∷ [])
    ∷ []
unfolding act
printed = refl

-- C1 and C2 invert each other, N, D and E themselves
pub inverses : map inverse_op (1 ∷ 2 ∷ 3 ∷ 4 ∷ 5 ∷ []) ≡ 2 ∷ 1 ∷ 3 ∷ 4 ∷ 5 ∷ []
unfolding inverse_op
inverses = refl

-- an operator is one of the five
pub five : (P : ℕ → Type 0) → P 1 → P 2 → P 3 → P 4 → P 5 → (o : ℕ) → 1 ≤ o → o ≤ 5 → P o
five P a b c d e zero lo hi = absurd (omega arith)
five P a b c d e (suc zero) lo hi = a
five P a b c d e (suc (suc zero)) lo hi = b
five P a b c d e (suc (suc (suc zero))) lo hi = c
five P a b c d e (suc (suc (suc (suc zero)))) lo hi = d
five P a b c d e (suc (suc (suc (suc (suc zero))))) lo hi = e
five P a b c d e (suc (suc (suc (suc (suc (suc o)))))) lo hi = absurd (omega arith)

-- an operator's value is a digit
pub act_lt : (o x : ℕ) → act o x < 3
unfolding act
act_lt o x = cond_lt (ltb o 3) (mod-lt (x + o) (omega arith)) (mod-lt (2 * x + o + 2) (omega arith))

pub act_inverse : (o x : ℕ) → 1 ≤ o → o ≤ 5 → x < 3 → act (inverse_op o) (act o x) ≡ x
unfolding act inverse_op
act_inverse o x lo hi l =
    five (λ o. act (inverse_op o) (act o x) ≡ x) (three (λ x. act 2 (act 1 x) ≡ x) refl refl refl x l)
    (three (λ x. act 1 (act 2 x) ≡ x) refl refl refl x l) (three (λ x. act 3 (act 3 x) ≡ x) refl refl refl x l)
    (three (λ x. act 4 (act 4 x) ≡ x) refl refl refl x l) (three (λ x. act 5 (act 5 x) ≡ x) refl refl refl x l) o lo hi

pub inverse_is_op : (o : ℕ) → 1 ≤ o → o ≤ 5 → (1 ≤ inverse_op o) × (inverse_op o ≤ 5)
unfolding inverse_op
inverse_is_op = five (λ o. (1 ≤ inverse_op o) × (inverse_op o ≤ 5)) (omega arith) (omega arith) (omega arith) (omega arith) (omega arith)

pub inverse_twice : (o : ℕ) → 1 ≤ o → o ≤ 5 → inverse_op (inverse_op o) ≡ o
unfolding inverse_op
inverse_twice = five (λ o. inverse_op (inverse_op o) ≡ o) refl refl refl refl refl

-- the inverse by its bits: adding 5 leaves the bit of value 4 set for C1 and C2 alone
pub inverse_bits : (o : ℕ) → 1 ≤ o → o ≤ 5 → bit_xor o (3 * ((o % 8 + 5) / 4 % 2)) ≡ inverse_op o
unfolding inverse_op
inverse_bits = five (λ o. bit_xor o (3 * ((o % 8 + 5) / 4 % 2)) ≡ inverse_op o) refl refl refl refl refl
