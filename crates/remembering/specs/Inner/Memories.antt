-- What is remembered of the gates and gaps in a buffer, and when it is true. Cited by the contracts of inner functions alone.
use Rattle.std.specs.Prelude.{◌≡◌, false, List, ℕ, ◌+◌, ◌*◌, ◌≤◌, length, replicate}
use Rattle.ranges.specs.Lists.{Each}
use Rattle.gates.specs.declared.Gate.{Gate}
use Rattle.remembering.specs.declared.memory.Memory.{Memory}
use Rattle.remembering.specs.Inner.Buffers.{is_gap}
use Rattle.remembering.specs.Inner.Rows.{RowsKnown, NoPairBefore, ReachBounds}
use Rattle.remembering.specs.Inner.Views.{all_kinds, StretchesMarked}

-- nothing is remembered
abbrev pub blank : (R S : ℕ) → Memory R S
blank R S = record { far = replicate R 0; reach = replicate S 0; marks = replicate S (record { types = all_kinds; kinds = all_kinds }) }

-- there is room to remember m rows by, and behind them to look at sixteen of them, or sixteen stretches, at once
pub record RoomFor (R S m : ℕ) : Type 0 where
  pub few : m ≤ 8000
  pub far_room : m + 16 ≤ R
  pub reach_room : m + 256 ≤ 16 * S

-- what is remembered of m gates and gaps is true, and no row before x has a pair
pub record MemoryTrue {R S : ℕ} (gs : List Gate) (memory : Memory R S) (m x : ℕ) : Type 0 where
  pub count : length gs ≡ m
  pub room : RoomFor R S m
  pub within : x ≤ m
  pub known : RowsKnown gs memory.far
  pub no_pair : NoPairBefore memory.far x
  pub bounds : ReachBounds memory.far memory.reach m
  pub marked : StretchesMarked gs memory.marks

-- where the reach bounds the first m rows in s, it does in t, whatever m is: rows behind the last gate too
abbrev pub ReachKept : {R S : ℕ} → Memory R S → Memory R S → Type 0
ReachKept s t = (m : ℕ) → ReachBounds s.far s.reach m → ReachBounds t.far t.reach m

-- it is true of any m gates, and of no row is known whether it has a pair
abbrev pub MemoryFresh : {R S : ℕ} → Memory R S → ℕ → Type 0
MemoryFresh memory m = (gs : List Gate) → length gs ≡ m → Each (λ g. is_gap g ≡ false) gs → MemoryTrue gs memory m 0
