-- Cascades: the gates of a list of bytes, what they compute, and the cascade that takes them back.
use Rattle.std.specs.Prelude.{ℕ, ◌*◌, ◌/◌, ◌^◌, ◌≤◌, List, [], ◌∷◌, ◌++◌, map, reverse, length}
use Rattle.ranges.specs.Ranges.{span}
use Rattle.ranges.specs.Lists.{Each, through}
use Rattle.gates.specs.declared.Gate.{Gate}
use Rattle.gates.specs.Gates.{applied, inverse, IsGate}
use Rattle.gates.specs.Records.{gate_at, record_of}

-- how many whole records a list of bytes has
abbrev pub records : List ℕ → ℕ
records b = length b / 8

-- the gate of record i, and the gates of all, first to last
abbrev pub gate_in : List ℕ → ℕ → Gate
gate_in b i = gate_at b (8 * i)

unfoldable pub gates_of : List ℕ → List Gate
gates_of b = span (gate_in b) 0 (records b)

-- the records of gates, one after the other
unfoldable pub bytes_of : List Gate → List ℕ
bytes_of [] = []
bytes_of (g ∷ gs) = record_of g ++ bytes_of gs

-- the pattern after the gates, applied first to last
abbrev pub ran : List Gate → ℕ → ℕ
ran gs p = through applied gs p

-- the table of a function on so many patterns: entry p is the output for input p
unfoldable pub table_for : (ℕ → ℕ) → ℕ → List ℕ
table_for f patterns = span f 0 patterns

-- the table that the gates compute on n lines
abbrev pub table_of : ℕ → List Gate → List ℕ
table_of n gs = table_for (ran gs) (3 ^ n)

-- the list reversed, each gate replaced by its inverse
unfoldable pub undoing : List Gate → List Gate
undoing gs = reverse (map inverse gs)

-- a well-formed cascade on n lines
pub record Cascade (n : ℕ) (gs : List Gate) : Type 0 where
  pub gates : Each (IsGate n) gs
  pub most : length gs ≤ 8000
