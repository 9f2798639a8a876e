-- `listings::listing` meets its contract: each return is a case of `listing_answer`. Assumes nothing.
use Rattle.std.proofs.Common.{◌≡◌, refl, sym, ap, ◌∙◌, ℕ, ◌≤◌, length, arith, lt-ltb, le-ltb, zero-add}
use Rattle.card.specs.Card.{refusing}
use Rattle.card.proofs.Cards.{refusing_yes, refusing_no, accepted_both, sets_laid}
use Rattle.card.proofs.Exits.{exit_both}
use Rattle.cascades.specs.Cascades.{records, gates_of}
use Rattle.cascades.specs.Inner.Checked.{Whole}
use Rattle.cascades.proofs.Checks.{passed}
use Rattle.boards.specs.Boards.{set_ok, on_board}
use Rattle.pricing.proofs.PriceAnswers.{price_accepted, price_refused}
use Rattle.listings.specs.Listings.{listing_with, listing_text, listing_answer, listing_room}
use Rattle.listings.proofs.listing.Goals as goal
use Rattle.listings.proofs.listing.Goals.{In_ok-cost}

-- what pricing has found
module _ (c : In_ok-cost) where
  whole : (let a = c.args in Whole a.lines a.cascade.now (records a.cascade.now))
  whole = (price_accepted _ _ 2 7 _ (sym c.in_ok-cost.ensures)).whole

  text : (let a = c.args in listing_with a.lines c.in_ok-cost.cost (gates_of a.cascade.now) ≡ listing_text a.lines (gates_of a.cascade.now))
  unfolding listing_text
  text =
      let a = c.args in
      let p = price_accepted _ _ 2 7 _ (sym c.in_ok-cost.ensures) in
      ap (λ (cost : ℕ). listing_with a.lines cost (gates_of a.cascade.now)) (cc p.is)

pub returns-in_err-cost : goal.returns-in_err-cost
unfolding listing_answer listing_room on_board set_ok refusing
returns-in_err-cost c = exit_both _ _ _ refl _ c.from_residual.ensures.1 _ _ _ (price_refused _ _ 2 7 _ _ _ (sym c.in_err-cost.ensures))

pub size_listing-requires : goal.size_listing-requires
size_listing-requires c = whole c

pub returns-in_err-check_room : goal.returns-in_err-check_room
unfolding listing_answer listing_room
returns-in_err-check_room c =
    let p = (goal.at.returns-in_err-check_room c).In_ok-cost in
    let short = rw (c.size_listing.ensures, text p) at c.in_err-check_room.ensures in
    exit_both _ _ _ short.1 _ c.from_residual-in_err-check_room.ensures.1 _ _ _ (passed _ _ _ _ (whole p) ∙ refusing_yes _ _ _ _ (lt-ltb (length c.args.room.now) _ (omega (arith, short.0))))

pub write_listing-requires : goal.write_listing-requires
write_listing-requires c = (whole (goal.at.write_listing-requires c).In_ok-cost, omega (arith, c.size_listing.ensures, c.in_ok-check_room.ensures))

pub returns : goal.returns
unfolding listing_answer listing_room
returns c =
    let p = (goal.at.returns c).In_ok-cost in
    let fits : length (listing_text c.args.lines (gates_of c.args.cascade.now)) ≤ length c.args.room.now = omega (arith, rw (c.size_listing.ensures, text p) at c.in_ok-check_room.ensures) in
    let stored = rw (text p) at c.write_listing.ensures in
    rw (stored.behind, zero-add) (accepted_both _ _ _ _ _ (passed _ _ _ _ (whole p) ∙ refusing_no _ _ _ _ (le-ltb _ _ fits)) (stored.bytes ∙ sets_laid _ _ fits))
