-- The laws of `every` and `some`: what they say of each number, and one turn of a loop that tests. Assumes nothing.
use mathlib.Core.Path.{◌≡◌, refl, sym, ap₂}
use mathlib.Core.Logic.{⊎_elim}
use mathlib.Core.Bool.{Bool, true, false, ◌&&◌, ◌||◌, or-false, or_assoc}
use Prim.Native.Nat.{ℕ, zero, suc, ◌+◌, ◌-◌, ◌≤◌, ◌<◌}
use native.Mathlib.Nat.{add-zero}
use native.Mathlib.Omega.{arith}
use Rattle.ranges.specs.Ranges.{every, some}
use Rattle.ranges.proofs.Counts.{left_suc, left_zero, here_or_later}
use Rattle.ranges.proofs.Bools.{and_left, and_right, and_both, or_left, or_right, decide, clash}

pub every_at : (f : ℕ → Bool) (i m : ℕ) → every f i m ≡ true → (k : ℕ) → i ≤ k → k < i + m → f k ≡ true
unfolding every
every_at f i zero e k le lt = absurd (omega arith)
every_at f i (suc m) e k le lt =
    ⊎_elim (λ (q : i ≡ k). rw (← q) (and_left (f i) _ e)) (λ (l : i < k). every_at f (i + 1) m (and_right (f i) _ e) k (omega arith) (omega arith))
    (here_or_later le)

pub every_make : (f : ℕ → Bool) (i m : ℕ) → ((k : ℕ) → i ≤ k → k < i + m → f k ≡ true) → every f i m ≡ true
unfolding every
every_make f i zero h = refl
every_make f i (suc m) h =
    and_both (f i) (every f (i + 1) m) (h i (omega arith) (omega arith)) (every_make f (i + 1) m (λ k le lt. h k (omega arith) (omega arith)))

pub every_ext : (f g : ℕ → Bool) (i m : ℕ) → ((k : ℕ) → i ≤ k → k < i + m → f k ≡ g k) → every f i m ≡ every g i m
unfolding every
every_ext f g i zero h = refl
every_ext f g i (suc m) h =
    ap₂ (λ (x y : Bool). x && y) (h i (omega arith) (omega arith)) (every_ext f g (i + 1) m (λ k le lt. h k (omega arith) (omega arith)))

-- from 0 on
pub every_below : (f : ℕ → Bool) (m : ℕ) → every f 0 m ≡ true → (k : ℕ) → k < m → f k ≡ true
every_below f m e k lt = every_at f 0 m e k (omega arith) (omega arith)

pub every_of : (f : ℕ → Bool) (m : ℕ) → ((k : ℕ) → k < m → f k ≡ true) → every f 0 m ≡ true
every_of f m h = every_make f 0 m (λ k le lt. h k (omega arith))

pub every_fails : (f : ℕ → Bool) (m k : ℕ) → k < m → f k ≡ false → every f 0 m ≡ false
every_fails f m k lt e =
    ⊎_elim (λ (t : every f 0 m ≡ true). clash (f k) (every_below f m t k lt) e) (λ (t : every f 0 m ≡ false). t) (decide (every f 0 m))

-- one turn of a loop: the test of k holds, and so what is left decides; it does not hold; nothing is left
pub every_more : (f : ℕ → Bool) (m k : ℕ) → k < m → f k ≡ true → every f (k + 1) (m - (k + 1)) ≡ every f k (m - k)
unfolding every
every_more f m k lt e = rw (left_suc m k lt, e)

pub every_stops : (f : ℕ → Bool) (m k : ℕ) → k < m → f k ≡ false → every f k (m - k) ≡ false
unfolding every
every_stops f m k lt e = rw (left_suc m k lt, e)

pub every_ends : (f : ℕ → Bool) (m k : ℕ) → m ≤ k → every f k (m - k) ≡ true
unfolding every
every_ends f m k le = rw (left_zero m k le)

-- ---- some

pub some_none : (f : ℕ → Bool) (i m : ℕ) → some f i m ≡ false → (k : ℕ) → i ≤ k → k < i + m → f k ≡ false
unfolding some
some_none f i zero e k le lt = absurd (omega arith)
some_none f i (suc m) e k le lt =
    ⊎_elim (λ (q : i ≡ k). rw (← q) (or_left (f i) _ e)) (λ (l : i < k). some_none f (i + 1) m (or_right (f i) _ e) k (omega arith) (omega arith))
    (here_or_later le)

pub some_hit : (f : ℕ → Bool) (i m k : ℕ) → i ≤ k → k < i + m → f k ≡ true → some f i m ≡ true
some_hit f i m k le lt e =
    ⊎_elim (λ (t : some f i m ≡ true). t) (λ (t : some f i m ≡ false). clash (f k) e (some_none f i m t k le lt)) (decide (some f i m))

pub some_not : (f : ℕ → Bool) (i m : ℕ) → ((k : ℕ) → i ≤ k → k < i + m → f k ≡ false) → some f i m ≡ false
unfolding some
some_not f i zero h = refl
some_not f i (suc m) h =
    rw (h i (omega arith) (omega arith)) (some_not f (i + 1) m (λ k le lt. h k (omega arith) (omega arith)))

-- one number more at the end
pub some_snoc : (f : ℕ → Bool) (i m : ℕ) → some f i (suc m) ≡ (some f i m || f (i + m))
unfolding some
some_snoc f i zero = rw (add-zero i) (or-false (f i))
some_snoc f i (suc m) =
    let e : i + 1 + m ≡ i + suc m = omega arith in
    rw (some_snoc f (i + 1) m, e) (sym (or_assoc (f i) (some f (i + 1) m) (f (i + suc m))))
