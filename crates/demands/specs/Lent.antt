-- What the two calls that hand a reference back hand back, by the rows of the card.
use Rattle.std.specs.Prelude.{ℕ, ◌≡◌, true, false, List, []}
use Rattle.std.specs.Borrow.{Bor}
use Rattle.cascades.specs.Cascades.{gates_of}
use Rattle.choice.specs.Choice.{second_wins}
use Rattle.files.specs.Files.{lines_in, start_of, trailer_at}
use Rattle.readers.specs.declared.Reader.{Reader}
use Rattle.demands.specs.CardRows.{FirstIs, NoneApplies}
use Rattle.demands.specs.Refusals.{choice_rows, opening_rows}

-- the empty part at the start of what was lent
pub record EmptyPart (lent r : Bor (List ℕ)) : Type 0 where
  pub start : r.ref_ptr ≡ lent.ref_ptr
  pub empty : r.now ≡ []

-- of two lent cascades: the second, the first, or the empty part of the first
pub record HandedBack (n v s : ℕ) (one two r : Bor (List ℕ)) : Type 0 where
  pub second : NoneApplies (choice_rows n v s one.now two.now) → second_wins v s (gates_of one.now) (gates_of two.now) ≡ true → r ≡ two
  pub first : NoneApplies (choice_rows n v s one.now two.now) → second_wins v s (gates_of one.now) (gates_of two.now) ≡ false → r ≡ one
  pub none : (k p : ℕ) → FirstIs (choice_rows n v s one.now two.now) k p → EmptyPart one r

-- the reader over a lent file: over the file itself, at its first record; or over its empty part, without lines
pub record OpenedBy (f : Bor (List ℕ)) (r : Reader) : Type 0 where
  pub file : NoneApplies (opening_rows f.now) → r.file ≡ f
  pub lines : NoneApplies (opening_rows f.now) → r.lines ≡ lines_in f.now
  pub at : NoneApplies (opening_rows f.now) → r.at ≡ start_of 8 f.now
  pub end : NoneApplies (opening_rows f.now) → r.end ≡ trailer_at 8 f.now
  pub none : (k p : ℕ) → FirstIs (opening_rows f.now) k p → EmptyPart f r.file × (r.lines ≡ 0) × (r.at ≡ 0) × (r.end ≡ 0)
