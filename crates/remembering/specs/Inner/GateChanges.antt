-- What a change asks of the buffer and of what is remembered, and what is remembered after the rows from one place to another have been looked at
-- again. Cited by the contracts of inner functions alone.
use Rattle.std.specs.Prelude.{◌≡◌, List, ℕ, ◌+◌, ◌<◌, ◌≤◌, length, get_or, set}
use Rattle.gates.specs.declared.Gate.{Gate}
use Rattle.remembering.specs.declared.changes.Change.{Change}
use Rattle.remembering.specs.declared.memory.Memory.{Memory}
use Rattle.remembering.specs.declared.views.Sets.{Sets}
use Rattle.remembering.specs.declared.buffer.Buffer.{Buffer}
use Rattle.remembering.specs.Inner.Buffers.{GateOrGap}
use Rattle.remembering.specs.Inner.LentBuffers.{held}
use Rattle.remembering.specs.Inner.Rows.{settled_mark, RowKnown, ReachBounds}
use Rattle.remembering.specs.Inner.Memories.{RoomFor}
use Rattle.remembering.specs.Inner.Views.{SeenAs, StretchesMarked}

-- the change of the gate at a place
abbrev pub change_of : ℕ → Gate → ℕ → Sets → Change
change_of place gate from seen = record { place = place; gate = gate; seen = seen; from = from }

-- a change can be made in the buffer
pub record ChangeFits (buffer : Buffer) (change : Change) : Type 0 where
  pub inside : change.place < buffer.count
  pub early : change.from ≤ change.place
  pub either : GateOrGap change.gate
  pub seen : SeenAs change.gate change.seen

-- the rows from x on, up to the one that changes, have their numbers from before the change
pub record RowsAhead (gs : List Gate) (far : List ℕ) (change : Change) (x : ℕ) : Type 0 where
  pub begun : x ≤ change.place
  pub room : change.place + 16 ≤ length far
  pub rows : (r : ℕ) → x ≤ r → r < change.place → RowKnown gs r (get_or far r 0)
  pub settled : (r : ℕ) → x ≤ r → r < change.from → settled_mark ≤ get_or far r 0

-- the stretches from row x on can be looked at
pub record LookFits {R S : ℕ} (buffer : Buffer) (memory : Memory R S) (change : Change) (x : ℕ) : Type 0 where
  pub fit : ChangeFits buffer change
  pub room : RoomFor R S buffer.count
  pub ahead : RowsAhead (held buffer) memory.far change x
  pub bounds : ReachBounds memory.far memory.reach (length (held buffer))
  pub marked : StretchesMarked (held buffer) memory.marks

-- t is s after those of the rows from x to e that stand before the change have looked at it again; from x on, no row before low has a pair
pub record LookedAgain (gs : List Gate) (change : Change) (s t : List ℕ) (x e low : ℕ) : Type 0 where
  pub len : length t ≡ length s
  pub looked : (r : ℕ) → x ≤ r → r < e → r < change.place → RowKnown (set gs change.place change.gate) r (get_or t r 0)
  pub below : (r : ℕ) → r < x → get_or t r 0 ≡ get_or s r 0
  pub above : (r : ℕ) → e ≤ r → get_or t r 0 ≡ get_or s r 0
  pub behind : (r : ℕ) → change.place ≤ r → get_or t r 0 ≡ get_or s r 0
  pub early : low ≤ change.from
  pub settled : (r : ℕ) → x ≤ r → r < low → settled_mark ≤ get_or t r 0

-- the same, with what is known of the stretches
pub record Looked {R S : ℕ} (gs : List Gate) (change : Change) (s t : Memory R S) (x e low : ℕ) : Type 0 where
  pub again : LookedAgain gs change s.far t.far x e low
  pub bounds : ReachBounds t.far t.reach (length gs)
  pub marked : StretchesMarked gs t.marks
