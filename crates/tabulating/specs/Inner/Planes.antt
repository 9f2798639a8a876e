-- Planes: sets of inputs. A plane has a bit for each input, in 12 words: input p has bit p % 64 of word p / 64. Each of six lines has a plane for each control.
use Rattle.std.specs.Prelude.{ℕ, ◌+◌, ◌*◌, ◌/◌, ◌%◌, ◌≤◌, ◌<◌, ◌≡◌, Bool, cond, ◌&&◌, ◌||◌, List, [], eqb, ltb, get_or}
use Rattle.digits.specs.Digits.{digit, pack}
use Rattle.gates.specs.declared.Gate.{Gate}
use Rattle.gates.specs.Gates.{holds}

-- bit i of a word is set
unfoldable pub bit_on : ℕ → ℕ → Bool
bit_on i w = eqb (digit 2 i w) 1

-- input p is in a plane
abbrev pub member : List ℕ → ℕ → Bool
member b p = bit_on (p % 64) (get_or b (p / 64) 0)

-- of the first n inputs, a plane has those of which t says so
abbrev pub PlaneHas : ℕ → List ℕ → (ℕ → Bool) → Type 0
PlaneHas n b t = (p : ℕ) → p < n → member b p ≡ t p

-- a line's planes have, for each control, those of the first n inputs p with which it is content if the line holds x p
pub record LineShows (n : ℕ) (line : List (List ℕ)) (x : ℕ → ℕ) : Type 0 where
  pub few : n ≤ 729
  pub low : (p : ℕ) → x p < 3
  pub plane : (c : ℕ) → c < 4 → PlaneHas n (get_or line c []) (λ p. holds c (x p))

-- the planes of all lines do so if f p is the pattern
pub record Shows (n : ℕ) (b : List (List (List ℕ))) (f : ℕ → ℕ) : Type 0 where
  pub few : n ≤ 729
  pub line : (k : ℕ) → k < 6 → LineShows n (get_or b k []) (λ p. digit 3 k (f p))

-- what a gate on planes needs: an operator, and a line to act on
pub record GateOnPlanes (g : Gate) : Type 0 where
  pub op_low : 1 ≤ g.operator
  pub op_high : g.operator ≤ 5
  pub on_line : g.target < 6

-- ---- the inputs that no gate has touched

-- the planes of line k have the inputs below t and no other; that for none has all
abbrev pub LineUpTo : ℕ → List (List ℕ) → ℕ → Type 0
LineUpTo k line t = (c q : ℕ) → c < 4 → q < 729 → member (get_or line c []) q ≡ (eqb c 3 || ltb q t && eqb c (digit 3 k q))

-- so do those of all lines
abbrev pub ShownUpTo : List (List (List ℕ)) → ℕ → Type 0
ShownUpTo b t = (k : ℕ) → k < 6 → LineUpTo k (get_or b k []) t

-- ---- the entries

-- the digit that a line's planes for 1 and 2 say for input p, and the pattern of all lines
abbrev pub digit_on : List (List ℕ) → ℕ → ℕ
digit_on line p = cond (member (get_or line 1 []) p) 1 0 + 2 * cond (member (get_or line 2 []) p) 1 0

unfoldable pub entry_of : List (List (List ℕ)) → ℕ → ℕ
entry_of b p = pack 3 (λ k. digit_on (get_or b k []) p) 6
