-- What the search for a pair answers, what a rule leaves of it, and what its repetition leaves: cited by the contracts of inner functions alone.
use Rattle.std.specs.Prelude.{◌≡◌, true, false, Option, Some, None, List, ◌++◌, ℕ, ◌-◌, ◌*◌, ◌<◌, ◌≤◌, length, replicate}
use Rattle.ranges.specs.Lists.{Each}
use Rattle.gates.specs.declared.Gate.{Gate}
use Rattle.cascades.specs.Cascades.{records, gates_of, bytes_of}
use Rattle.gates.specs.Gates.{inverse, IsGate}
use Rattle.rules.specs.declared.fitting.Rule.{Rule}
use Rattle.rules.specs.declared.fitting.Left.{Left}
use Rattle.rules.specs.Rules.{fits, loosened, retuned}
use Rattle.rules.specs.Tidying.{gate, tidied}
use Rattle.remembering.specs.Inner.Buffers.{gap, is_gap, ungapped, BufferHolds}
use Rattle.remembering.specs.Inner.LentBuffers.{held}
use Rattle.remembering.specs.Inner.Rows.{Clear}
use Rattle.remembering.specs.declared.buffer.Buffer.{Buffer}
use Rattle.remembering.specs.declared.memory.Memory.{Memory}
use Rattle.remembering.specs.Inner.Memories.{MemoryTrue}
use Rattle.tidying.specs.declared.pairs.Pair.{Pair}

-- the buffer is the records of m gates on six lines
pub record GateRecords (b : List ℕ) (m : ℕ) : Type 0 where
  pub size : length b ≡ 8 * m
  pub few : m ≤ 8000
  pub holds : BufferHolds b (gates_of b)
  pub gates : Each (IsGate 6) (gates_of b)

-- what is remembered of the gates and gaps in the buffer is true, and no row before x has a pair
abbrev pub Remembers : {R S : ℕ} → Buffer → Memory R S → ℕ → Type 0
Remembers buffer memory x = MemoryTrue (held buffer) memory buffer.count x

-- a pair of gates that fits, the first being clear up to the second
pub record PairAt (gs : List Gate) (pair : Pair) : Type 0 where
  pub within : pair.i < length gs
  pub gate_i : is_gap (gate gs pair.i) ≡ false
  pub clear : Clear gs pair.i pair.j
  pub inside : pair.j < length gs
  pub fit : fits (gate gs pair.i) (gate gs pair.j) ≡ true

-- what a rule leaves in the places of the pair g, h: a gap where a gate goes
abbrev pub left_by : Option Rule → Gate → Gate → Left
left_by (Some Rule.Cancel) g h = record { first = gap; second = gap }
left_by (Some Rule.Merge) g h = record { first = gap; second = inverse h }
left_by (Some Rule.Reduce) g h = record { first = loosened g h; second = retuned g h }
left_by None g h = record { first = g; second = h }

-- the gates in the buffer are what tidying the records of s leaves, after so many steps
abbrev pub TidyHeld : List ℕ → Buffer → ℕ → Type 0
TidyHeld s buffer steps = record { left = ungapped (held buffer); steps = steps } ≡ tidied (gates_of s)

-- t is what tidying the records of s leaves, with so many gates left and after so many steps
pub record TidiedIn (s t : List ℕ) (left steps : ℕ) : Type 0 where
  pub count : left ≡ length (tidied (gates_of s)).left
  pub uses : steps ≡ (tidied (gates_of s)).steps
  pub bytes : t ≡ bytes_of (tidied (gates_of s)).left ++ replicate (8 * (records s - length (tidied (gates_of s)).left)) 0
