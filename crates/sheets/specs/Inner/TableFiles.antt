-- A table file whose size is right: what looking at it leaves to those who go on.
use Rattle.std.specs.Prelude.{ℕ, ◌+◌, ◌*◌, ◌^◌, ◌≡◌, true, List, length}
use Rattle.card.specs.Card.{lines_ok}
use Rattle.sheets.specs.Sheets.{lines_of}

-- the file has n lines from 1 to 6, and an entry for each pattern
pub record TableFile (f : List ℕ) (n : ℕ) : Type 0 where
  pub lines : lines_ok n ≡ true
  pub first : n ≡ lines_of f
  pub size : length f ≡ 1 + 2 * 3 ^ n
