-- What checking a cascade leaves to those who go on.
use Rattle.std.specs.Prelude.{ℕ, ◌*◌, ◌≤◌, ◌<◌, ◌≡◌, Bool, true, List, length}
use Rattle.card.specs.Card.{lines_ok}
use Rattle.gates.specs.Records.{is_record}

-- the bytes b are m records, each good on n lines
pub record WholeOf (good : ℕ → List ℕ → ℕ → Bool) (n : ℕ) (b : List ℕ) (m : ℕ) : Type 0 where
  pub lines : lines_ok n ≡ true
  pub size : length b ≡ 8 * m
  pub most : m ≤ 8000
  pub each : (i : ℕ) → i < m → good n b (8 * i) ≡ true

-- each a ternary gate
abbrev pub Whole : ℕ → List ℕ → ℕ → Type 0
Whole n b m = WholeOf is_record n b m
