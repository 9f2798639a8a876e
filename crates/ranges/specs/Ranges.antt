-- Tests, sums, searches and lists over the m numbers i, i + 1, .. , i + m - 1.
use Rattle.std.specs.Prelude.{ℕ, zero, suc, ◌+◌, Bool, true, false, cond, ◌&&◌, ◌||◌, List, [], ◌∷◌}

-- f holds of each of them
unfoldable pub every : (ℕ → Bool) → ℕ → ℕ → Bool
every f i zero = true
every f i (suc m) = f i && every f (i + 1) m

-- f holds of one of them
unfoldable pub some : (ℕ → Bool) → ℕ → ℕ → Bool
some f i zero = false
some f i (suc m) = f i || some f (i + 1) m

-- the sum of f over them
unfoldable pub sum : (ℕ → ℕ) → ℕ → ℕ → ℕ
sum f i zero = 0
sum f i (suc m) = f i + sum f (i + 1) m

-- the first of them of which f holds, or i + m where there is none
unfoldable pub first : (ℕ → Bool) → ℕ → ℕ → ℕ
first f i zero = i
first f i (suc m) = cond (f i) i (first f (i + 1) m)

-- f at each of them
unfoldable pub span : {A : Type 0} → (ℕ → A) → ℕ → ℕ → List A
span f i zero = []
span f i (suc m) = f i ∷ span f (i + 1) m
