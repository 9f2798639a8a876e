-- A table's inverse, as the pass over its entries fills it.
use Rattle.std.specs.Prelude.{ℕ, ◌<◌, ◌≡◌, List, length, get_or}
use Rattle.tables.specs.Permutations.{Permutation}

-- v takes each entry of t before entry i back to its row
abbrev pub Back : List ℕ → List ℕ → ℕ → Type 0
Back t v i = (p : ℕ) → p < i → get_or v (get_or t p 0) 0 ≡ p

-- t is a permutation of so many patterns, and v takes each of its entries back to its row
pub record Inverted (patterns : ℕ) (t v : List ℕ) : Type 0 where
  pub perm : Permutation patterns t
  pub size : length v ≡ patterns
  pub back : Back t v patterns
