-- What a search that stops at m has found, as code says it.
use Rattle.std.specs.Prelude.{ℕ, cond, ltb, Option, Some, None}

-- the place r, or none where the search came to its end m
unfoldable pub found_at : ℕ → ℕ → Option ℕ
found_at m r = cond (ltb r m) (Some r) None
