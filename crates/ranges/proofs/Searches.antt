-- The laws of `first`: it is the only number with the property that one means, and one turn of a loop that searches. Assumes nothing.
use mathlib.Core.Path.{◌≡◌, refl}
use mathlib.Core.Logic.{⊎_elim}
use mathlib.Core.Bool.{Bool, true, false, cond}
use Prim.Native.Nat.{ℕ, zero, suc, ◌+◌, ◌-◌, ◌≤◌, ◌<◌}
use native.Mathlib.Nat.{suc-add}
use native.Mathlib.Omega.{arith}
use Rattle.ranges.specs.Ranges.{some, first}
use Rattle.ranges.proofs.Counts.{left_suc, left_zero, here_or_later, lt_or_le}
use Rattle.ranges.proofs.Bools.{clash}
use Rattle.ranges.proofs.Tests.{some_not}

-- r is the first number from i on of which f holds, or the end e where none below e has it
pub record Found (f : ℕ → Bool) (i e r : ℕ) : Type 0 where
  pub from : i ≤ r
  pub within : r ≤ e
  pub before : (k : ℕ) → i ≤ k → k < r → f k ≡ false
  pub hit : r < e → f r ≡ true

found_step : (f : ℕ → Bool) (i m : ℕ) (b : Bool) → f i ≡ b → Found f (i + 1) (i + 1 + m) (first f (i + 1) m)
    → Found f i (i + suc m) (cond b i (first f (i + 1) m))
found_step f i m true e w =
    record { from = omega arith; within = omega arith; before = λ k le lt. absurd (omega arith); hit = λ lt. e }
found_step f i m false e w =
    record {
      from = omega (arith, w.from);
      within = omega (arith, w.within);
      before = λ k le lt. ⊎_elim (λ (q : i ≡ k). rw (← q) e) (λ (l : i < k). w.before k (omega arith) lt) (here_or_later le);
      hit = λ lt. w.hit (omega arith);
    }

pub found : (f : ℕ → Bool) (i m : ℕ) → Found f i (i + m) (first f i m)
unfolding first
found f i zero = record { from = omega arith; within = omega arith; before = λ k le lt. absurd (omega arith); hit = λ lt. absurd (omega arith) }
found f i (suc m) = found_step f i m (f i) refl (found f (i + 1) m)

not_below : (f : ℕ → Bool) (i e r s : ℕ) → Found f i e r → Found f i e s → s ≤ r
not_below f i e r s a b =
    ⊎_elim (λ (l : r < s). clash (f r) (a.hit (omega (arith, b.within))) (b.before r a.from l)) (λ (l : s ≤ r). l) (lt_or_le r s)

pub found_unique : (f : ℕ → Bool) (i e r s : ℕ) → Found f i e r → Found f i e s → r ≡ s
found_unique f i e r s a b = omega (arith, not_below f i e r s a b, not_below f i e s r b a)

-- where a test passes for some number, it does for the first
pub some_first : (f : ℕ → Bool) (i m : ℕ) → some f i m ≡ true → first f i m < i + m
some_first f i m e =
    ⊎_elim (λ (l : first f i m < i + m). l) (λ (l : i + m ≤ first f i m). clash (some f i m) e (some_not f i m (λ k le lt. (found f i m).before k le (omega arith))))
    (lt_or_le (first f i m) (i + m))

-- searches by tests that agree find the same
pub first_ext : (f g : ℕ → Bool) (i m : ℕ) → ((k : ℕ) → i ≤ k → k < i + m → f k ≡ g k) → first f i m ≡ first g i m
unfolding first
first_ext f g i zero h = refl
first_ext f g i (suc m) h = rw (h i (omega arith) (omega arith), first_ext f g (i + 1) m (λ k le lt. h k (omega arith) (omega arith)))

-- a search behind one number more
pub first_suc : (f g : ℕ → Bool) → ((k : ℕ) → f (suc k) ≡ g k) → (i m : ℕ) → first f (suc i) m ≡ suc (first g i m)
unfolding first
first_suc f g e i zero = refl
first_suc f g e i (suc m) = rw (e i, suc-add i 1, first_suc f g e (i + 1) m) (go (g i))
  where
    go : (b : Bool) → cond b (suc i) (suc (first g (i + 1) m)) ≡ suc (cond b i (first g (i + 1) m))
    go true = refl
    go false = refl

-- one turn of a loop: k is not it; k is it; nothing is left
pub first_more : (f : ℕ → Bool) (m k : ℕ) → k < m → f k ≡ false → first f (k + 1) (m - (k + 1)) ≡ first f k (m - k)
unfolding first
first_more f m k lt e = rw (left_suc m k lt, e)

pub first_hit : (f : ℕ → Bool) (m k : ℕ) → k < m → f k ≡ true → first f k (m - k) ≡ k
unfolding first
first_hit f m k lt e = rw (left_suc m k lt, e)

pub first_ends : (f : ℕ → Bool) (m k : ℕ) → m ≤ k → first f k (m - k) ≡ k
unfolding first
first_ends f m k le = rw (left_zero m k le)
