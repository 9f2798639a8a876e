-- Sums over several stretches of numbers: one after another, shifted, of two functions, and in blocks of r equal summands. Assumes nothing.
use mathlib.Core.Path.{◌≡◌, refl, ap, ◌∙◌}
use mathlib.Core.Bool.{cond}
use Prim.Native.Nat.{ℕ, zero, suc, ◌+◌, ◌-◌, ◌*◌, ◌/◌, ◌≤◌, ◌<◌}
use native.Mathlib.Nat.{add-zero, suc-add, mul-suc, mul-zero, add-mul-div_left, div-eq_of_lt, zero-add}
use native.Mathlib.Omega.{arith}
use lib.Dec.{eqb}
use borrow.Author.Tests.{eq-eqb, ne_eqb}
use Rattle.ranges.specs.Ranges.{sum}
use Rattle.ranges.proofs.Sums.{sum_snoc}

sum_none : (f : ℕ → ℕ) (i : ℕ) → sum f i 0 ≡ 0
unfolding sum
sum_none f i = refl

-- one stretch after another
pub sum_join : (f : ℕ → ℕ) (i m n : ℕ) → sum f i (m + n) ≡ sum f i m + sum f (i + m) n
unfolding sum
sum_join f i zero n = rw (zero-add n, add-zero i) (omega arith)
sum_join f i (suc m) n =
    let e : i + 1 + m ≡ i + suc m = omega arith in
    rw (suc-add m n, sum_join f (i + 1) m n, e) (omega arith)

-- the summands from i + 1 on
pub sum_shift : (f : ℕ → ℕ) (i m : ℕ) → sum f (i + 1) m ≡ sum (λ k. f (k + 1)) i m
unfolding sum
sum_shift f i zero = refl
sum_shift f i (suc m) = ap (λ (x : ℕ). f (i + 1) + x) (sum_shift f (i + 1) m)

pub sum_add : (f g : ℕ → ℕ) (i m : ℕ) → sum (λ k. f k + g k) i m ≡ sum f i m + sum g i m
unfolding sum
sum_add f g i zero = omega arith
sum_add f g i (suc m) = rw (sum_add f g (i + 1) m) (omega arith)

pub sum_const : (f : ℕ → ℕ) (c i m : ℕ) → ((k : ℕ) → i ≤ k → k < i + m → f k ≡ c) → sum f i m ≡ m * c
unfolding sum
sum_const f c i zero h = omega arith
sum_const f c i (suc m) h = rw (h i (omega arith) (omega arith), sum_const f c (i + 1) m (λ k le lt. h k (omega arith) (omega arith))) (omega arith)

-- each summand r times
pub sum_blocks : (f : ℕ → ℕ) (r m : ℕ) → 0 < r → sum (λ k. f (k / r)) 0 (r * m) ≡ r * sum f 0 m
sum_blocks f r zero pos = rw (mul-zero r, sum_none (λ k. f (k / r)) 0, sum_none f 0, mul-zero r)
sum_blocks f r (suc m) pos =
    let block : sum (λ k. f (k / r)) (r * m) r ≡ r * f m =
    sum_const (λ k. f (k / r)) (f m) (r * m) r
    (λ k le lt.
    let e : k ≡ k - r * m + r * m = omega arith in
    let below : k - r * m < r = omega arith in
    ap f (ap (λ (x : ℕ). x / r) e ∙ add-mul-div_left (k - r * m) m pos ∙ rw (div-eq_of_lt below, zero-add))) in
    rw (mul-suc r m, sum_join (λ k. f (k / r)) 0 (r * m) r, zero-add (r * m), block, sum_blocks f r m pos, sum_snoc f 0 m, zero-add m) (omega arith)

-- 1 for each number but the last
pub sum_but_last : (m : ℕ) → sum (λ k. cond (eqb (suc k) (suc m)) 0 1) 0 (suc m) ≡ m
sum_but_last m =
    rw (
      sum_snoc (λ k. cond (eqb (suc k) (suc m)) 0 1) 0 m,
      zero-add m,
      eq-eqb (suc m) (suc m) refl,
      sum_const (λ k. cond (eqb (suc k) (suc m)) 0 1) 1 0 m (λ k le lt. rw (ne_eqb (suc k) (suc m) (λ e. omega arith))),
    )
    (omega arith)
