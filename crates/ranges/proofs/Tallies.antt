-- Counting by a sum: what a sum of 0 says, the one number that a count of 1 counts, and two sums that differ at one number. Assumes nothing.
use mathlib.Core.Path.{◌≡◌, refl, ap}
use mathlib.Core.Logic.{⊎_elim}
use mathlib.Core.Bool.{Bool, true, false, cond}
use Prim.Native.Nat.{ℕ, zero, suc, ◌+◌, ◌≤◌, ◌<◌}
use native.Mathlib.Omega.{arith}
use Rattle.ranges.specs.Ranges.{sum, first}
use Rattle.ranges.proofs.Counts.{here_or_later}
use Rattle.ranges.proofs.Sums.{sum_ext}

-- how many of the numbers pass the test f
abbrev pub tally : (ℕ → Bool) → ℕ → ℕ → ℕ
tally f i m = sum (λ k. cond (f k) 1 0) i m

pub tally_none : (f : ℕ → Bool) (i m : ℕ) → tally f i m ≡ 0 → (k : ℕ) → i ≤ k → k < i + m → f k ≡ false
unfolding sum
tally_none f i zero e k le lt = absurd (omega arith)
tally_none f i (suc m) e k le lt =
    ⊎_elim (λ (q : i ≡ k). rw (← q) (here (f i) e)) (λ (l : i < k). tally_none f (i + 1) m (omega arith) k (omega arith) (omega arith)) (here_or_later le)
  where
    here : (b : Bool) → cond b 1 0 + tally f (i + 1) m ≡ 0 → b ≡ false
    here true z = absurd (omega arith)
    here false z = refl

-- r alone passes it
pub record Alone (f : ℕ → Bool) (i m r : ℕ) : Type 0 where
  pub from : i ≤ r
  pub within : r < i + m
  pub hit : f r ≡ true
  pub rest : (k : ℕ) → i ≤ k → k < i + m → (k ≡ r → ⊥) → f k ≡ false

alone_step : (f : ℕ → Bool) (i m : ℕ) (b : Bool) → f i ≡ b → cond b 1 0 + tally f (i + 1) m ≡ 1
    → (tally f (i + 1) m ≡ 1 → Alone f (i + 1) m (first f (i + 1) m)) → Alone f i (suc m) (cond b i (first f (i + 1) m))
alone_step f i m true e one w =
    record {
      from = omega arith;
      within = omega arith;
      hit = e;
      rest = λ k le lt ne. tally_none f (i + 1) m (omega arith) k (omega arith) (omega arith);
    }
alone_step f i m false e one w =
    let a = w (omega arith) in
    record {
      from = omega (arith, a.from);
      within = omega (arith, a.within);
      hit = a.hit;
      rest = λ k le lt ne. ⊎_elim (λ (q : i ≡ k). rw (← q) e) (λ (l : i < k). a.rest k (omega arith) (omega arith) ne) (here_or_later le);
    }

pub tally_one : (f : ℕ → Bool) (i m : ℕ) → tally f i m ≡ 1 → Alone f i m (first f i m)
unfolding sum first
tally_one f i zero e = absurd (omega arith)
tally_one f i (suc m) e = alone_step f i m (f i) refl e (tally_one f (i + 1) m)

-- two sums that differ at k alone
pub sum_change : (f g : ℕ → ℕ) (i m k : ℕ) → i ≤ k → k < i + m → ((j : ℕ) → i ≤ j → j < i + m → (j ≡ k → ⊥) → f j ≡ g j)
    → sum f i m + g k ≡ sum g i m + f k
unfolding sum
sum_change f g i zero k le lt same = absurd (omega arith)
sum_change f g i (suc m) k le lt same =
    ⊎_elim
    (λ (q : i ≡ k).
    let tails : sum f (i + 1) m ≡ sum g (i + 1) m = sum_ext f g (i + 1) m (λ j a b. same j (omega arith) (omega arith) (λ e. absurd (omega arith))) in
    omega (arith, tails, ap f q, ap g q))
    (λ (l : i < k).
    omega
    (arith, sum_change f g (i + 1) m k (omega arith) (omega arith) (λ j a b. same j (omega arith) (omega arith)), same i (omega arith) (omega arith) (λ e. absurd (omega arith))))
    (here_or_later le)
