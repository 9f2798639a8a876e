-- The names of the operators in a table: two bytes each, and how many of them are letters.
use Rattle.std.specs.Prelude.{ℕ, ◌+◌, min, cond, List, [], ◌∷◌, map, eqb, get_or, take}
use Rattle.cascades.specs.Cascades.{records}
use Rattle.cascades.specs.Inner.Checked.{Whole}

-- how many letters a name has
abbrev pub name_size : List ℕ × ℕ → ℕ
name_size name = min name.1 2

unfoldable pub name_of : List ℕ × ℕ → List ℕ
name_of name = take (name_size name) (get_or name.0 0 0 ∷ get_or name.0 1 0 ∷ [])

-- the name that two bytes write where a space, which is 32, is no letter
abbrev pub spaced : List ℕ → List ℕ × ℕ
spaced name = (name, cond (eqb (get_or name 0 0) 32) 0 1 + cond (eqb (get_or name 1 0) 32) 0 1)

-- the name of operator o
unfoldable pub name_in : List (List ℕ × ℕ) → ℕ → List ℕ
name_in names o = get_or (map name_of names) o []

-- a cascade, on some number of lines
pub record Printable (b : List ℕ) : Type 0 where
  pub lines : ℕ
  pub whole : Whole lines b (records b)
