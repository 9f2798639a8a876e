-- What a permutation of so many patterns is, and its inverse.
use Rattle.std.specs.Prelude.{ℕ, ◌<◌, ◌≡◌, List, eqb, length, get_or}
use Rattle.ranges.specs.Ranges.{first, span}

-- t has an entry for each pattern, its entries are patterns, and no two are equal
pub record Permutation (patterns : ℕ) (t : List ℕ) : Type 0 where
  pub size : length t ≡ patterns
  pub within : (p : ℕ) → p < patterns → get_or t p 0 < patterns
  pub apart : (p q : ℕ) → p < patterns → q < patterns → get_or t p 0 ≡ get_or t q 0 → p ≡ q

-- entry q is the input whose output is q
unfoldable pub inverse_table : ℕ → List ℕ → List ℕ
inverse_table patterns t = span (λ q. first (λ p. eqb (get_or t p 0) q) 0 patterns) 0 patterns
