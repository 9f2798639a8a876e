-- Two cascades compared by their tables.
use Rattle.std.specs.Prelude.{ℕ, ◌^◌, ◌≡◌, List, length}
use Rattle.cascades.specs.Cascades.{records}
use Rattle.cascades.specs.Inner.Checked.{Whole}

-- two cascades that were checked, and a room for the table of each
pub record TwoTables (n : ℕ) (b c one two : List ℕ) : Type 0 where
  pub first_whole : Whole n b (records b)
  pub second_whole : Whole n c (records c)
  pub first_room : length one ≡ 3 ^ n
  pub second_room : length two ≡ 3 ^ n
