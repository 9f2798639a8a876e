-- What the search remembers of each row: cited by the contracts of inner functions alone.
use Rattle.std.specs.Prelude.{◌≡◌, true, false, List, ℕ, ◌+◌, ◌/◌, ◌%◌, ◌<◌, ◌≤◌, length, get_or}
use Rattle.gates.specs.declared.Gate.{Gate}
use Rattle.rules.specs.Places.{may_change}
use Rattle.rules.specs.Rules.{fits}
use Rattle.rules.specs.Tidying.{gate}
use Rattle.remembering.specs.Inner.Buffers.{is_gap}

-- no rule fits g and h, and they may change places
pub record Quiet (g h : Gate) : Type 0 where
  pub unfit : fits g h ≡ false
  pub pass : may_change g h ≡ true

-- gate r is quiet with each gate after it and before c
pub record Clear (gs : List Gate) (r c : ℕ) : Type 0 where
  pub past : r < c
  pub inside : c ≤ length gs
  pub quiet : (l : ℕ) → r < l → l < c → Quiet (gate gs r) (gate gs l)

-- c is the end, or a gate that gate r neither fits nor passes
pub record Stops (gs : List Gate) (r c : ℕ) : Type 0 where
  pub unfit : c < length gs → fits (gate gs r) (gate gs c) ≡ false
  pub shut : c < length gs → may_change (gate gs r) (gate gs c) ≡ false

-- The number of a row in far: bits 0 to 13 say how far the row is clear, which is at most 8000; bit 14 is set where the row has no pair.
abbrev pub settled_mark : ℕ
settled_mark = 0x4000

-- what n says of row r: a gate is clear up to n, and from settled_mark on it is clear up to n - settled_mark and stops there; a gap has the number
-- settled_mark
pub record RowKnown (gs : List Gate) (r n : ℕ) : Type 0 where
  pub clear : is_gap (gate gs r) ≡ false → Clear gs r (n % settled_mark)
  pub stops : is_gap (gate gs r) ≡ false → settled_mark ≤ n → Stops gs r (n % settled_mark)
  pub gone : is_gap (gate gs r) ≡ true → n ≡ settled_mark

-- the numbers of far say this of each row; behind them is room to look at sixteen at once
pub record RowsKnown (gs : List Gate) (far : List ℕ) : Type 0 where
  pub room : length gs + 16 ≤ length far
  pub rows : (r : ℕ) → r < length gs → RowKnown gs r (get_or far r 0)

-- no row before x has a pair
abbrev pub NoPairBefore : List ℕ → ℕ → Type 0
NoPairBefore far x = (r : ℕ) → r < x → settled_mark ≤ get_or far r 0

-- r is the first row from i on that may have a pair
pub record NextRow (far : List ℕ) (m i r : ℕ) : Type 0 where
  pub begun : i ≤ r
  pub within : r < m
  pub no_pair : NoPairBefore far r
  pub unsure : get_or far r 0 < settled_mark

-- of the first m rows none in a stretch of sixteen is clear further than the stretch's number
pub record ReachBounds (far reach : List ℕ) (m : ℕ) : Type 0 where
  pub bound : (r : ℕ) → r < m → get_or far r 0 % settled_mark ≤ get_or reach (r / 16) 0 % settled_mark

-- the same of all rows but r, which is clear up to n at most
pub record ReachBoundsBut (far reach : List ℕ) (m r n : ℕ) : Type 0 where
  pub inside : r < m
  pub small : n < settled_mark
  pub near : get_or far r 0 % settled_mark ≤ n
  pub others : (q : ℕ) → q < m → (q ≡ r → ⊥) → get_or far q 0 % settled_mark ≤ get_or reach (q / 16) 0 % settled_mark
