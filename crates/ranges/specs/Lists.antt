-- What holds of each element of a list, a number summed over a list, and a number taken through a list.
use Rattle.std.specs.Prelude.{ℕ, ◌+◌, List, [], ◌∷◌}

-- P holds of each element
abbrev pub Each : {A : Type 0} → (A → Type 0) → List A → Type 0
Each P [] = Unit {0}
Each P (x ∷ xs) = P x × Each P xs

-- the sum of f over the elements
unfoldable pub total : {A : Type 0} → (A → ℕ) → List A → ℕ
total f [] = 0
total f (x ∷ xs) = f x + total f xs

-- p taken through f at each element, first to last
unfoldable pub through : {A : Type 0} → (A → ℕ → ℕ) → List A → ℕ → ℕ
through f [] p = p
through f (x ∷ xs) p = through f xs (f x p)
