-- Two patterns that change places.
use Rattle.std.specs.Prelude.{ℕ, cond, eqb}

-- a becomes b, b becomes a, and every other pattern stays
unfoldable pub exchanged : ℕ → ℕ → ℕ → ℕ
exchanged a b p = cond (eqb p a) b (cond (eqb p b) a p)
