-- The names in a table: each is as long as it has letters, at most two, and begins with them. Assumes nothing.
use Rattle.std.proofs.Common.{◌≡◌, sym, ap, List, [], ◌∷◌, ◌++◌, ℕ, ◌≤◌, length, get_or, drop, arith}
use Rattle.std.proofs.lemmas.List.{get_or-map, length-take-le, take-append-drop}
use Rattle.texts.specs.Inner.Names.{name_size, name_of, name_in}

-- both bytes of a name, as they are stored
abbrev pub both : List ℕ × ℕ → List ℕ
both name = get_or name.0 0 0 ∷ get_or name.0 1 0 ∷ []

module _ (name : List ℕ × ℕ) where
  pub name_few : name_size name ≤ 2
  name_few = omega arith

  pub name_long : length (name_of name) ≡ name_size name
  unfolding name_of
  name_long = length-take-le (name_size name) (both name) name_few

  pub name_begins : both name ≡ name_of name ++ drop (name_size name) (both name)
  unfolding name_of
  name_begins = sym (take-append-drop (name_size name) (both name))

module _ (names : List (List ℕ × ℕ)) (six : length names ≡ 6) (o : ℕ) (high : o ≤ 5) where
  pub name_is : name_in names o ≡ name_of (get_or names o ([], 0))
  unfolding name_in
  name_is = get_or-map name_of names o ([], 0) [] (omega (arith, six))

  pub name_short : length (name_in names o) ≤ 2
  name_short = omega (arith, ap length name_is, name_long (get_or names o ([], 0)), name_few (get_or names o ([], 0)))
