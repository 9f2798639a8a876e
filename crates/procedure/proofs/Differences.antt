-- In how many of the digits below k two numbers differ: one digit more at the top, and the lowest digit taken off. Assumes nothing.
use mathlib.Core.Path.{◌≡◌, refl, ◌∙◌}
use mathlib.Core.Bool.{cond}
use Prim.Native.Nat.{ℕ, suc, ◌+◌, ◌/◌, ◌%◌}
use native.Mathlib.Nat.{zero-add, add-zero}
use native.Mathlib.Numerals.{add-one}
use lib.Dec.{eqb}
use borrow.Author.Tests.{eq-eqb, ne_eqb}
use Rattle.ranges.specs.Ranges.{sum}
use Rattle.ranges.proofs.Sums.{sum_snoc, sum_ext}
use Rattle.ranges.proofs.Blocks.{sum_shift}
use Rattle.digits.specs.Digits.{digit}
use Rattle.digits.proofs.Digits.{digit_zero, digit_suc}

abbrev differs_at : ℕ → ℕ → ℕ → ℕ → ℕ
differs_at r a i k = cond (eqb (digit r k a) (digit r k i)) 0 1

unfoldable pub differing : ℕ → ℕ → ℕ → ℕ → ℕ
differing r k a i = sum (differs_at r a i) 0 k

pub differing_none : (r a i : ℕ) → differing r 0 a i ≡ 0
unfolding differing sum
differing_none r a i = refl

differing_last : (r k a i : ℕ) → differing r (suc k) a i ≡ differing r k a i + differs_at r a i k
unfolding differing
differing_last r k a i = rw (zero-add k) at (sum_snoc (differs_at r a i) 0 k)

pub differing_same : (r k a i : ℕ) → digit r k a ≡ digit r k i → differing r (suc k) a i ≡ differing r k a i
differing_same r k a i e = differing_last r k a i ∙ rw (eq-eqb (digit r k a) (digit r k i) e) (add-zero (differing r k a i))

pub differing_other : (r k a i : ℕ) → (digit r k a ≡ digit r k i → ⊥) → differing r (suc k) a i ≡ suc (differing r k a i)
differing_other r k a i ne = differing_last r k a i ∙ rw (ne_eqb (digit r k a) (digit r k i) ne) (add-one (differing r k a i))

pub differing_first : (r k a i : ℕ) → differing r (suc k) a i ≡ cond (eqb (a % r) (i % r)) 0 1 + differing r k (a / r) (i / r)
unfolding differing sum
differing_first r k a i =
    let shifted : sum (differs_at r a i) 1 k ≡ sum (differs_at r (a / r) (i / r)) 0 k =
    sum_shift (differs_at r a i) 0 k
    ∙ sum_ext (λ j. differs_at r a i (j + 1)) (differs_at r (a / r) (i / r)) 0 k (λ j le lt. rw (add-one j, digit_suc r j a, digit_suc r j i)) in
    rw (digit_zero r a, digit_zero r i, shifted)
