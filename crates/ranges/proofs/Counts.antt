-- A loop that counts k up to m has m - k numbers left.
-- Assumes nothing.
use mathlib.Core.Path.{◌≡◌}
use mathlib.Core.Logic.{◌⊎◌, ⊎_elim}
use Prim.Native.Nat.{ℕ, suc, ◌+◌, ◌-◌, ◌≤◌, ◌<◌}
use native.Mathlib.Nat.{eq-or-lt_of_le}
use native.Mathlib.Decide.{dec_lt}
use native.Mathlib.Omega.{arith}

pub left_suc : (m k : ℕ) → k < m → m - k ≡ suc (m - (k + 1))
left_suc m k lt = omega arith

pub left_zero : (m k : ℕ) → m ≤ k → m - k ≡ 0
left_zero m k le = omega arith

-- a number from i on is i, or one from i + 1 on
pub here_or_later : {i k : ℕ} → i ≤ k → (i ≡ k) ⊎ (i < k)
here_or_later le = eq-or-lt_of_le le

-- of two numbers the first is below the second, or not
pub lt_or_le : (a b : ℕ) → (a < b) ⊎ (b ≤ a)
lt_or_le a b = go (dec_lt a b)
  where
    go : Dec (a < b) → (a < b) ⊎ (b ≤ a)
    go (yes l) = ◌⊎◌.inl l
    go (no l) = ◌⊎◌.inr (omega arith)

-- a place q stands before p, or not
pub by_place : (P : Type 0) (p q : ℕ) → (q < p → P) → (p ≤ q → P) → P
by_place P p q before behind = ⊎_elim before behind (lt_or_le q p)

-- a fact of the numbers below k, and of k
pub one_more : (P : ℕ → Type 0) (k : ℕ) → ((l : ℕ) → l < k → P l) → P k → (l : ℕ) → l < k + 1 → P l
one_more P k all here l lt = by_place (P l) k l (all l) (λ le. let e : l ≡ k = omega arith in rw e here)
