-- What the lent buffer holds on the way: cited by the contracts of inner functions alone.
use Rattle.std.specs.Prelude.{◌≡◌, Bool, true, false, cond, List, [], ◌∷◌, ℕ, zero, suc, ◌+◌, ◌*◌, ◌^◌, ◌<◌, ◌≤◌, eqb, length, get_or}
use Rattle.std.proofs.Props.{props}
use mathlib.Core.HLevel.{×_prop, Unit-prop}
use Rattle.ranges.specs.Ranges.{span}
use Rattle.ranges.specs.Lists.{Each}
use Rattle.gates.specs.declared.Gate.{Gate}
use Rattle.gates.specs.Gates.{IsGate}
use Rattle.gates.specs.Records.{gate_at, record_of}
use Rattle.rules.specs.Tidying.{gate}

-- What stands where a gate has gone: every gate passes it, and no rule fits it with a gate. Its target is no line, and each of its six digits of
-- controls, two bits each, is 3: no control.
abbrev pub gap : Gate
gap = record { operator = 0; target = 6; controls = 0x0fff }

unfoldable pub is_gap : Gate → Bool
is_gap g = eqb g.operator 0

-- a gate on six lines, or a gap
pub record GateOrGap (g : Gate) : Type 0 where
  pub op_high : g.operator ≤ 5
  pub on_line : g.target ≤ 6
  pub packed : g.controls < 4 ^ 6
  pub real : is_gap g ≡ false → IsGate 6 g
  pub blank : is_gap g ≡ true → g ≡ gap

-- the gates of a list with gaps, and how many of them stand before place p
unfoldable pub ungapped : List Gate → List Gate
ungapped [] = []
ungapped (g ∷ gs) = cond (is_gap g) (ungapped gs) (g ∷ ungapped gs)

unfoldable pub rank : List Gate → ℕ → ℕ
rank [] p = 0
rank (g ∷ gs) zero = 0
rank (g ∷ gs) (suc p) = cond (is_gap g) (rank gs p) (suc (rank gs p))

-- the first m gates of a buffer
unfoldable pub gates_in : List ℕ → ℕ → List Gate
gates_in b m = span (λ i. gate_at b (8 * i)) 0 m

-- the buffer starts with the records of gs, which are gates and gaps
pub record BufferHolds (b : List ℕ) (gs : List Gate) : Type 0 where
  pub room : 8 * length gs ≤ length b
  pub gates : Each GateOrGap gs
  pub bytes : (q k : ℕ) → q < length gs → k < 8 → get_or b (8 * q + k) 0 ≡ get_or (record_of (gate gs q)) k 0

-- each in at most one way, as a ghost field asks
pub each_once : (gs : List Gate) → IsProp (Each GateOrGap gs)
each_once [] = Unit-prop
each_once (g ∷ gs) = ×_prop (hlevel props) (each_once gs)

-- t is s with record p at place q too
pub record RecordMoved (s t : List ℕ) (p q : ℕ) : Type 0 where
  pub len : length t ≡ length s
  pub here : (k : ℕ) → k < 8 → get_or t (8 * q + k) 0 ≡ get_or s (8 * p + k) 0
  pub below : (y : ℕ) → y < 8 * q → get_or t y 0 ≡ get_or s y 0
  pub above : (y : ℕ) → 8 * q + 8 ≤ y → get_or t y 0 ≡ get_or s y 0

-- the same where record p is no gap, and r the place behind q then
pub record KeptOrGone (s t : List ℕ) (p q r : ℕ) : Type 0 where
  pub gone : get_or s (8 * p) 0 ≡ 0 → (t ≡ s) × (r ≡ q)
  pub stays : (get_or s (8 * p) 0 ≡ 0 → ⊥) → RecordMoved s t p q × (r ≡ q + 1)
