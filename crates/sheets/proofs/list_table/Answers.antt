-- `sheets::list_table` meets its contract: what synthesis refuses the file is refused, and what it makes is listed. Assumes nothing.
use Rattle.std.proofs.Common.{◌≡◌, sym, ap, ◌∙◌, List, ℕ, ◌*◌, ◌^◌, ◌≤◌, length, take, length-take-le, take_at, arith}
use Rattle.card.specs.Card.{laid}
use Rattle.card.proofs.Cards.{lines_are}
use Rattle.tables.specs.Permutations.{Permutation}
use Rattle.gates.specs.declared.Gate.{Gate}
use Rattle.cascades.specs.Cascades.{bytes_of}
use Rattle.cascades.proofs.Stored.{length_bytes}
use Rattle.synthesis.specs.Synthesis.{synthesized}
use Rattle.synthesis.proofs.Synthesis.{synthesized_bound}
use Rattle.sheets.proofs.SheetAnswers.{made_refused, made_permutation, made_count, made_room, listing_sheet, room_sheet}
use Rattle.sheets.proofs.list_table.Goals as goal
use Rattle.sheets.proofs.list_table.Goals.{In-Ok}

-- what synthesis has made
module _ (c : In-Ok) where
  abbrev gates : List Gate
  gates = synthesized c.args.lines c.args.table.now

  perm : Permutation (3 ^ c.args.lines) c.args.table.now
  perm = made_permutation _ _ c.requires.0 _ c.requires.1 _ c.requires.2 _ c.in-Ok.ensures.answer

  count : c.in-Ok.m ≡ length gates
  count = made_count _ _ c.requires.0 _ c.requires.1 _ c.requires.2 _ c.in-Ok.ensures.answer

  few : 8 * c.in-Ok.m ≤ length c.args.cascade.now
  few =
      let six = (lines_are _ c.requires.0.lines).1 in
      omega (arith, count, synthesized_bound c.args.lines c.args.table.now six perm, c.requires.2)

  long : length c.synthesize.new.room ≡ length c.args.cascade.now
  long = c.synthesize.auto.room

  -- the records stand at the start of the cascade's room
  front : take (8 * c.in-Ok.m) c.synthesize.new.room ≡ bytes_of gates
  unfolding laid
  front =
      ap (take (8 * c.in-Ok.m))
      (c.synthesize.ensures.room_after ∙ made_room _ _ c.requires.0 _ c.requires.1 perm c.args.cascade.now c.requires.2)
      ∙ take_at (bytes_of gates) _ _ (length_bytes gates ∙ ap (λ (m : ℕ). 8 * m) (sym count))

pub list_refusal-requires : goal.list_refusal-requires
list_refusal-requires c =
    made_refused _ _ c.requires.0 _ c.requires.1 _ c.requires.2 _ _ c.in-Err.ensures.answer

pub overflow_mul-m : goal.overflow_mul-m
overflow_mul-m c = omega (arith, few c)

pub slice_bounds-listing-end : goal.slice_bounds-listing-end
slice_bounds-listing-end c = omega (arith, few c, long c)

pub slice_bounds-listing-end-in-Ok : goal.slice_bounds-listing-end-in-Ok
slice_bounds-listing-end-in-Ok c = sym (length-take-le _ _ (omega (arith, few c, long c)))

pub returns-in-Ok : goal.returns-in-Ok
returns-in-Ok c =
    let p = c.requires in
    let e = c.listing.ensures in record {
      answer = (rw (front (goal.at.returns-in-Ok c).In-Ok) at e.answer) ∙ listing_sheet _ _ p.0 _ p.1 (perm (goal.at.returns-in-Ok c).In-Ok) _;
      room_after = (rw (front (goal.at.returns-in-Ok c).In-Ok) at e.room_after) ∙ room_sheet _ _ p.0 _ p.1 (perm (goal.at.returns-in-Ok c).In-Ok) _;
    }
