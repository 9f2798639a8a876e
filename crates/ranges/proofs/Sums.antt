-- The laws of `sum`. Assumes nothing.
use mathlib.Core.Path.{◌≡◌, refl, ap, ap₂}
use mathlib.Core.Logic.{⊎_elim}
use Prim.Native.Nat.{ℕ, zero, suc, ◌+◌, ◌-◌, ◌*◌, ◌≤◌, ◌<◌}
use native.Mathlib.Nat.{add_assoc, add-zero, suc-mul}
use native.Mathlib.Omega.{arith}
use Rattle.ranges.specs.Ranges.{sum}
use Rattle.ranges.proofs.Counts.{left_suc, left_zero, here_or_later}

-- one number more at the end
pub sum_snoc : (f : ℕ → ℕ) (i m : ℕ) → sum f i (suc m) ≡ sum f i m + f (i + m)
unfolding sum
sum_snoc f i zero = rw (add-zero i) (omega arith)
sum_snoc f i (suc m) =
    let e : i + 1 + m ≡ i + suc m = omega arith in
    let ih : sum f (i + 1) (suc m) ≡ sum f (i + 1) m + f (i + 1 + m) = sum_snoc f (i + 1) m in
    rw (← e) (omega (arith, ih))

pub sum_ext : (f g : ℕ → ℕ) (i m : ℕ) → ((k : ℕ) → i ≤ k → k < i + m → f k ≡ g k) → sum f i m ≡ sum g i m
unfolding sum
sum_ext f g i zero h = refl
sum_ext f g i (suc m) h = ap₂ ◌+◌ (h i (omega arith) (omega arith)) (sum_ext f g (i + 1) m (λ k le lt. h k (omega arith) (omega arith)))

-- what is at most c everywhere sums to at most c times the count
pub sum_le : (f : ℕ → ℕ) (c i m : ℕ) → ((k : ℕ) → f k ≤ c) → sum f i m ≤ m * c
unfolding sum
sum_le f c i zero h = omega arith
sum_le f c i (suc m) h = omega (arith, h i, sum_le f c (i + 1) m h, suc-mul m c)

-- and to c less where it is 0 somewhere
pub sum_le_but : (f : ℕ → ℕ) (c i m k : ℕ) → ((j : ℕ) → f j ≤ c) → i ≤ k → k < i + m → f k ≡ 0 → sum f i m + c ≤ m * c
unfolding sum
sum_le_but f c i zero k h le lt z = absurd (omega arith)
sum_le_but f c i (suc m) k h le lt z =
    ⊎_elim (λ (q : i ≡ k). omega (arith, ap f q, sum_le f c (i + 1) m h, suc-mul m c))
    (λ (l : i < k). omega (arith, h i, sum_le_but f c (i + 1) m k h (omega arith) (omega arith) z, suc-mul m c)) (here_or_later le)

-- one turn of a loop that adds up, and its end
pub sum_more : (f : ℕ → ℕ) (m k acc : ℕ) → k < m → acc + f k + sum f (k + 1) (m - (k + 1)) ≡ acc + sum f k (m - k)
unfolding sum
sum_more f m k acc lt = rw (left_suc m k lt, add_assoc)

pub sum_ends : (f : ℕ → ℕ) (m k acc : ℕ) → m ≤ k → acc + sum f k (m - k) ≡ acc
unfolding sum
sum_ends f m k acc le = rw (left_zero m k le, add-zero)
