-- `choice::choose` meets its contract: each return is a case of `choose_answer`. Assumes nothing.
use Rattle.std.proofs.Common.{◌≡◌, refl, sym, ◌∙◌, Bool, true, false, cond, ◌&&◌, ◌||◌, List, [], ◌∷◌, ℕ, ◌/◌, ◌^◌, ◌≤◌, eqb, ltb, length}
use Rattle.card.specs.Card.{Answer.accepted}
use Rattle.ranges.proofs.Places.{found_some, found_none}
use Rattle.card.proofs.Exits.{exit}
use Rattle.cascades.specs.Cascades.{gates_of}
use Rattle.cascades.proofs.Cascades.{gates_count}
use Rattle.pricing.specs.Prices.{cascade_price, price_answer}
use Rattle.pricing.proofs.PriceAnswers.{HasPrice, price_accepted}
use Rattle.choice.specs.Choice.{first_difference, second_wins, choose_answer}
use Rattle.choice.proofs.Choices.{choose_first, choose_second, choose_differ, choose_same}
use Rattle.choice.proofs.choose.Goals as goal

-- the test of `second_wins`, on the prices and counts of the two
wins : (n v s : ℕ) (b c : List ℕ) (x y : ℕ) (t : Bool) → HasPrice n b v s (x ∷ []) → HasPrice n c v s (y ∷ []) → t ≡ (ltb y x || eqb y x && ltb (length c / 8) (length b / 8)) → second_wins v s (gates_of b) (gates_of c) ≡ t
unfolding second_wins
wins n v s b c x y t p q e =
    let f : x ≡ cascade_price v s (gates_of b) = cc p.is in
    let g : y ≡ cascade_price v s (gates_of c) = cc q.is in
    rw (gates_count b, gates_count c, ← f, ← g) (sym e)

-- the tables are the same: cost and length decide
decided : (n v s : ℕ) (b c : List ℕ) (x y d : ℕ) (t : Bool) → price_answer n v s b ≡ accepted (x ∷ []) → price_answer n v s c ≡ accepted (y ∷ []) → d ≡ first_difference n (gates_of b) (gates_of c) → 3 ^ n ≤ d
    → t ≡ (ltb y x || eqb y x && ltb (length c / 8) (length b / 8)) → accepted (cond t 2 1 ∷ []) ≡ choose_answer n v s b c
decided n v s b c x y d t one two f le e = sym (choose_same n v s b c _ one _ two d t f le (wins n v s b c x y t (price_accepted n b v s _ one) (price_accepted n c v s _ two) e))

pub returns-in_err-one : goal.returns-in_err-one
returns-in_err-one c = exit _ _ _ refl _ c.from_residual.ensures.1 ∙ sym (choose_first _ _ _ _ _ _ _ (sym c.in_err-one.ensures))

pub returns-in_err-two : goal.returns-in_err-two
returns-in_err-two c =
    exit _ _ _ refl _ c.from_residual-in_err-two.ensures.1 ∙ sym (choose_second _ _ _ _ _ _ (sym c.in_ok-one.ensures) _ _ (sym c.in_err-two.ensures))

pub first_difference-requires : goal.first_difference-requires
first_difference-requires c = record {
  first_whole = (price_accepted _ _ _ _ _ (sym c.in_ok-one.ensures)).whole;
  second_whole = (price_accepted _ _ _ _ _ (sym c.in_ok-two.ensures)).whole;
}

pub returns-in-Some : goal.returns-in-Some
returns-in-Some c =
    let d = found_some _ _ _ c.in-Some.ensures in
    sym (choose_differ _ _ _ _ _ _ (sym c.in_ok-one.ensures) _ (sym c.in_ok-two.ensures) _ d.0 (rw d.0 d.1))

pub returns-then-second_wins : goal.returns-then-second_wins
returns-then-second_wins c =
    decided _ _ _ _ _ _ _ _ true (sym c.in_ok-one.ensures) (sym c.in_ok-two.ensures) refl (found_none _ _ c.in_default.ensures) (sym c.if-second_wins.true ∙ c.second_wins.ensures)

pub returns-else-second_wins : goal.returns-else-second_wins
returns-else-second_wins c =
    decided _ _ _ _ _ _ _ _ false (sym c.in_ok-one.ensures) (sym c.in_ok-two.ensures) refl (found_none _ _ c.in_default.ensures) (sym c.if-second_wins.false ∙ c.second_wins.ensures)
