-- A gate as the others see it: sets that tell of many gates at once which of them a gate passes. Cited by the contracts of inner functions alone.
use Rattle.std.specs.Prelude.{◌≡◌, false, cond, List, ℕ, ◌+◌, ◌-◌, ◌*◌, ◌/◌, ◌%◌, ◌^◌, ◌<◌, ◌≤◌, eqb, length, get_or}
use Rattle.std.specs.Int.Bits.{bit_and, bit_or}
use Rattle.digits.specs.Digits.{pack}
use Rattle.gates.specs.declared.Gate.{Gate}
use Rattle.gates.specs.Gates.{control, IsGate}
use Rattle.rules.specs.Places.{is_c}
use Rattle.rules.specs.Tidying.{gate}
use Rattle.remembering.specs.declared.views.Sets.{Sets}
use Rattle.remembering.specs.Inner.Buffers.{is_gap}
use Rattle.remembering.specs.Inner.Rows.{Quiet}

-- ---- the types of operators

-- a set of types is a number below 16: a bit for each type
abbrev pub type_n : ℕ
type_n = 1

abbrev pub type_e : ℕ
type_e = 2

abbrev pub type_d : ℕ
type_d = 4

abbrev pub type_c : ℕ
type_c = 8

abbrev pub all_but : ℕ → ℕ
all_but types = 15 - types

-- the type of an operator
unfoldable pub type_of : ℕ → ℕ
type_of o = cond (is_c o) type_c (cond (eqb o 3) type_n (cond (eqb o 4) type_d type_e))

-- the types that upset a control of value v: D alone passes 0, N alone 1, E alone 2; and 3 is no control
unfoldable pub upsetters : ℕ → ℕ
upsetters v = cond (eqb v 3) 0 (all_but (cond (eqb v 0) type_d (cond (eqb v 1) type_n type_e)))

-- ---- what a gate is for others

-- A view has a byte for each line, bits 8 k to 8 k + 7 for line k. The low half, bits 0 to 3 of the byte, has the types that the gate cannot pass
-- where they have that line as their target: those that upset its control there, and on its own target all types but its own. The high half, bits 4
-- to 7, has the gate's own type on its own target, and is 0 on the other lines. A gate has no control on its own target, so the two parts share no
-- bit.
unfoldable pub shunned : Gate → ℕ
shunned g = pack 256 (λ k. upsetters (control g k)) 6

unfoldable pub own_part : ℕ → ℕ
own_part o = cond (eqb o 0) 0 (all_but (type_of o) + 16 * type_of o)

unfoldable pub view_of : Gate → ℕ
view_of g = shunned g + own_part g.operator * 256 ^ g.target

-- The same with the halves of each byte exchanged: what a view must not meet. On a line the high half of one is then held against the low half of the
-- other, that is the types that have it as their target against the types that cannot be passed there, in both directions at once.
unfoldable pub other_part : ℕ → ℕ
other_part o = 16 * (own_part o % 16) + own_part o / 16

unfoldable pub against_of : Gate → ℕ
against_of g = 16 * shunned g + other_part g.operator * 256 ^ g.target

-- Six bytes of 0 or 1, at bits 0, 8 .. 40, as six bits: 23 places down bytes 3 to 5 stand at bits 1, 9 and 17, beside bytes 0 to 2 at 0, 8 and 16,
-- and 6 and 12 places down the three pairs stand side by side in bits 0 to 5. Which bit is which byte has no part in any proof: equal bytes make
-- equal bits.
unfoldable pub six_bits : ℕ → ℕ
six_bits marks = let pairs = bit_or marks (marks / 2 ^ 23) in bit_or (bit_or pairs (pairs / 2 ^ 6)) (pairs / 2 ^ 12) % 64

-- the kind of a gate: of 64 bits the one for the set of its control lines, which the gates of a fitting pair share; a gap has none
unfoldable pub kind_of : Gate → ℕ
kind_of g = cond (is_gap g) 0 (2 ^ six_bits (pack 256 (λ k. cond (eqb (control g k) 3) 0 1) 6))

-- every kind, all 64 bits: each gate meets this, so nothing is said of a stretch that has it
abbrev pub all_kinds : ℕ
all_kinds = 0xffff_ffff_ffff_ffff

-- what a gate must not meet; of a gap nothing is said
abbrev pub SeenAs : Gate → Sets → Type 0
SeenAs g seen = is_gap g ≡ false → (seen.types ≡ against_of g) × (seen.kinds ≡ kind_of g)

-- what a gate must not meet, and what stands in a stretch, share no type on a line and no kind
pub record MeetsNone (seen here : Sets) : Type 0 where
  pub types : bit_and seen.types here.types ≡ 0
  pub kinds : bit_and seen.kinds here.kinds ≡ 0

-- a gate that meets nothing of the sets is quiet with the gates from x to e, and these with it
pub record StretchPassed (gs : List Gate) (x e : ℕ) (here : Sets) : Type 0 where
  pub quiet : (g : Gate) → IsGate 6 g → MeetsNone (record { types = against_of g; kinds = kind_of g }) here → (l : ℕ) → x ≤ l → l < e
      → Quiet g (gate gs l) × (is_gap (gate gs l) ≡ false → Quiet (gate gs l) g)

-- what is known of stretch s
abbrev pub mark : List Sets → ℕ → Sets
mark marks s = get_or marks s (record { types = 0; kinds = 0 })

-- the sets of each stretch of sixteen places
pub record StretchesMarked (gs : List Gate) (marks : List Sets) : Type 0 where
  pub room : length gs ≤ 16 * length marks
  pub each : (s : ℕ) → 16 * s + 16 ≤ length gs → StretchPassed gs (16 * s) (16 * s + 16) (mark marks s)
