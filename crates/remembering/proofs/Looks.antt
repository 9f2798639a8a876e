-- Where a gate changes, the rows before it are looked at again, stretch by stretch; what is remembered is true of the gates as the change leaves
-- them. Assumes nothing.
use Rattle.std.proofs.Common.{◌≡◌, refl, sym, ◌∙◌, subst, false, cond, List, ℕ, ◌+◌, ◌%◌, ◌<◌, ◌≤◌, arith, length, get_or, set, length-set}
use Rattle.ranges.proofs.Counts.{by_place}
use Rattle.ranges.proofs.Changes.{at_set}
use Rattle.gates.specs.declared.Gate.{Gate}
use Rattle.rules.specs.Tidying.{gate}
use Rattle.remembering.specs.declared.buffer.Buffer.{Buffer}
use Rattle.remembering.specs.declared.changes.Change.{Change}
use Rattle.remembering.specs.declared.memory.Memory.{Memory}
use Rattle.remembering.specs.Inner.Buffers.{is_gap, GateOrGap}
use Rattle.remembering.specs.Inner.LentBuffers.{held}
use Rattle.remembering.specs.Inner.Rows.{Quiet, settled_mark, RowKnown, RowsKnown}
use Rattle.remembering.specs.Inner.Views.{SeenAs, StretchesMarked}
use Rattle.remembering.specs.Inner.Memories.{MemoryTrue}
use Rattle.remembering.specs.Inner.GateChanges.{change_of, ChangeFits, RowsAhead, LookFits, LookedAgain, Looked}
use Rattle.remembering.proofs.Clearances.{row_stays, again_near, row_behind, row_own}

-- the gates as the change leaves them
abbrev after : List Gate → Change → List Gate
after gs change = set gs change.place change.gate

-- a change that is planned can be made
pub planned_fits : (buffer : Buffer) (change : Change) (p : ℕ) (g : Gate) (from : ℕ) → change ≡ change_of p g from change.seen → SeenAs g change.seen → p < buffer.count → from ≤ p
    → GateOrGap g → ChangeFits buffer change
planned_fits buffer change p g from is seen inside early either =
    subst (ChangeFits buffer) (sym is) (record { inside = inside; early = early; either = either; seen = seen })

-- ---- the rows

module _ (gs : List Gate) (change : Change) where
  -- the rows from x to e keep their numbers
  again_same : (s : List ℕ) (x e : ℕ) → RowsAhead gs s change x → ((r : ℕ) → x ≤ r → r < e → r < change.place → RowKnown (after gs change) r (get_or s r 0))
      → LookedAgain gs change s s x e change.from
  again_same s x e w looked =
      record { len = refl; looked = looked; below = λ r l. refl; above = λ r l. refl; behind = λ r l. refl; early = omega arith; settled = w.settled }

  -- none of them reaches the change
  pub again_none : (s : List ℕ) (x e : ℕ) → change.place < length gs → change.place < settled_mark
      → ((r : ℕ) → x ≤ r → r < e → r < change.place → get_or s r 0 % settled_mark < change.place) → RowsAhead gs s change x → LookedAgain gs change s s x e change.from
  again_none s x e lp small near w =
      again_same s x e w (λ r a b l. again_near gs change.place change.gate r (get_or s r 0) lp (λ q. omega arith) (w.rows r a l) l small (near r a b l))

  -- none of them ends at the change, and all are quiet with the new gate
  pub again_stay : (s : List ℕ) (x e : ℕ) → change.place < length gs → ((r : ℕ) → x ≤ r → r < e → get_or s r 0 % settled_mark ≡ change.place → ⊥)
      → ((r : ℕ) → x ≤ r → r < e → r < change.place → is_gap (gate gs r) ≡ false → Quiet (gate gs r) change.gate) → RowsAhead gs s change x
      → LookedAgain gs change s s x e change.from
  again_stay s x e lp off quiet w =
      again_same s x e w
      (λ r a b l. row_stays gs change.place change.gate r (get_or s r 0) lp (λ q. omega arith) (w.rows r a l) (λ real. off r a b) (λ real c d. quiet r a b l real))

  -- the rows up to e, and then those up to f
  again_more : (s t u : List ℕ) (x e f low q z : ℕ) → x ≤ e → e ≤ f → z ≤ low → z ≤ q → LookedAgain gs change s t x e low → LookedAgain gs change t u e f q → LookedAgain gs change s u x f z
  again_more s t u x e f low q z lx le lz lq w v =
      record {
        len = v.len ∙ w.len;
        looked = λ r a b l.
            by_place (RowKnown (after gs change) r (get_or u r 0)) e r (λ c. subst (RowKnown (after gs change) r) (sym (v.below r c)) (w.looked r a c l)) (λ c. v.looked r c b l);
        below = λ r l. v.below r (omega arith) ∙ w.below r l;
        above = λ r l. v.above r l ∙ w.above r (omega arith);
        behind = λ r l. v.behind r l ∙ w.behind r l;
        early = omega (arith, w.early);
        settled = λ r a l. by_place (settled_mark ≤ get_or u r 0) e r (λ c. rw (v.below r c) (w.settled r a (omega arith))) (λ c. v.settled r c (omega arith));
      }

  -- all rows before the change, and its own
  pub again_end : (s t : List ℕ) (x n low : ℕ) → RowsKnown gs s → change.place < length gs → change.place < 8000 → change.place ≤ x → LookedAgain gs change s t 0 x low
      → n ≡ cond (is_gap change.gate) settled_mark (change.place + 1) → RowsKnown (after gs change) (set t change.place n)
  again_end s t x n low k lp small le w own =
      record {
        room = rw (length-set gs change.place change.gate, length-set t change.place n, w.len) k.room;
        rows = λ r l.
            at_set (RowKnown (after gs change)) t change.place n 0 (omega (arith, w.len, k.room)) (rw own (row_own gs change.place change.gate lp small)) r
            (λ ne. row r ne (rw (length-set gs change.place change.gate) at l));
      }
    where
      row : (r : ℕ) → (r ≡ change.place → ⊥) → r < length gs → RowKnown (after gs change) r (get_or t r 0)
      row r ne l =
          by_place (RowKnown (after gs change) r (get_or t r 0)) change.place r (λ b. w.looked r (omega arith) (omega arith) b)
          (λ b.
          subst (RowKnown (after gs change) r) (sym (w.behind r b)) (row_behind gs change.place change.gate r (get_or s r 0) lp (omega arith) (k.rows r l)))

-- ---- the rows and the stretches, in a loop

module _ {R S : ℕ} (b : Buffer) (change : Change) (start : Memory R S) (x : ℕ) (fit : LookFits b start change x) where
  module _ (memory : Memory R S) (y low : ℕ) (w : Looked (held b) change start memory x y low) (le : x ≤ y) where
    pub looking_next : (later : Memory R S) (z q l : ℕ) → Looked (held b) change memory later y z q → y ≤ z → l ≤ low → l ≤ q → Looked (held b) change start later x z l
    looking_next later z q l v lz c d =
        record {
          again = again_more (held b) change start.far memory.far later.far x y z low q l le lz c d w.again v.again;
          bounds = v.bounds;
          marked = v.marked;
        }

-- ---- no row looks again

-- what is remembered stays true where the rows keep their numbers, and what is known of the stretches is true
pub rows_kept : {R S : ℕ} (gs : List Gate) (memory later : Memory R S) (m x : ℕ) → MemoryTrue gs memory m x → (later.far ≡ memory.far) × (later.reach ≡ memory.reach)
    → StretchesMarked gs later.marks → MemoryTrue gs later m x
rows_kept gs memory later m x w same marked =
    record {
      count = w.count;
      room = w.room;
      within = w.within;
      known = rw same.0 w.known;
      no_pair = rw same.0 w.no_pair;
      bounds = rw (same.0, same.1) w.bounds;
      marked = marked;
    }
