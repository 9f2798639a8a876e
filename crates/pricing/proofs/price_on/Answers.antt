-- `pricing::price_on` meets its contract: the cost so far and the price of what is left is the price of all. Assumes nothing.
use Rattle.std.proofs.Common.{◌≡◌, sym, ap, ◌∙◌, true, List, [], ◌∷◌, ℕ, ◌+◌, ◌*◌, ◌/◌, ◌%◌, ◌≤◌, ◌<◌, get_or, Ok, arith}
use Rattle.card.specs.Card.{lines_ok, Answer.accepted}
use Rattle.card.proofs.Cards.{lines_are}
use Rattle.card.proofs.Exits.{exit}
use Rattle.gates.specs.Gates.{IsGate}
use Rattle.gates.specs.declared.Gate.{Gate}
use Rattle.gates.specs.Inner.Decoding.{decoded}
use Rattle.gates.proofs.Records.{Gives, gives, gives_gate, gives_no}
use Rattle.cascades.specs.Cascades.{gates_of}
use Rattle.cascades.proofs.Answers.{passing_next, length_is, on_records_length, on_records_bad, on_records_good}
use Rattle.pricing.specs.Prices.{gate_price}
use Rattle.pricing.proofs.Costs.{price_le, price_more, price_ends}
use Rattle.pricing.proofs.Points.{points_lt, price_looked_up}
use Rattle.pricing.proofs.price_on.Goals as goal
use Rattle.pricing.proofs.price_on.Invariants.{Going}

-- the gate that it is, and what is looked up for it
module _ {n v s : ℕ} {b points prices extras : List ℕ} {cost i : ℕ} {g : Gate} (six : lines_ok n ≡ true) (l : Going n v s b points prices extras cost i) (is : decoded n b (8 * i) ≡ Ok g) where
  got : Gives n b (8 * i) g
  got = gives _ _ _ _ is

  good : IsGate n g
  good = gives_gate _ _ _ _ got

  few : get_or points (g.controls % 64) 0 + get_or points (g.controls / 64) 0 < 36
  few = points_lt _ _ _ _ (lines_are _ six).1 good _ _ _ l.rates

  paid : get_or prices (get_or points (g.controls % 64) 0 + get_or points (g.controls / 64) 0) 0 + get_or extras g.operator 0 ≡ gate_price v s g
  paid = price_looked_up _ _ _ _ (lines_are _ six).1 good _ _ _ l.rates

  cheap : get_or prices (get_or points (g.controls % 64) 0 + get_or points (g.controls / 64) 0) 0 + get_or extras g.operator 0 ≤ 86
  cheap = rw paid (price_le _ _ _ _ (lines_are _ six).1 good)

pub returns-in_err-check_length : goal.returns-in_err-check_length
returns-in_err-check_length c =
    exit _ _ _ c.in_err-check_length.ensures.1 _ c.from_residual.ensures.1 ∙ sym (on_records_length _ _ _ _ c.in_err-check_length.ensures.0)

pub returns-in_default : goal.returns-in_default
returns-in_default c =
    let bad = gives_no _ _ _ _ c.requires (sym c.decode.ensures ∙ c.in_default.is) in
    sym (on_records_bad _ _ _ _ _ c.in_ok-check_length.ensures c.loop-i-test.true bad c.loop-i.invariant.passing)

pub bounds-points-c-in-loop-i : goal.bounds-points-c-in-loop-i
bounds-points-c-in-loop-i c = omega (arith, (good c.requires c.loop-i.invariant (sym c.decode.ensures ∙ c.in-Ok.is)).packed)

pub overflow_add-p : goal.overflow_add-p
overflow_add-p c = record { fits = omega (arith, few c.requires c.loop-i.invariant (sym c.decode.ensures ∙ c.in-Ok.is)) }

pub bounds-prices-p : goal.bounds-prices-p
bounds-prices-p c = few c.requires c.loop-i.invariant (sym c.decode.ensures ∙ c.in-Ok.is)

pub bounds-extras-operator : goal.bounds-extras-operator
bounds-extras-operator c = omega (arith, (good c.requires c.loop-i.invariant (sym c.decode.ensures ∙ c.in-Ok.is)).op_high)

pub overflow_add-price : goal.overflow_add-price
overflow_add-price c = record { fits = omega (arith, cheap c.requires c.loop-i.invariant (sym c.decode.ensures ∙ c.in-Ok.is)) }

pub overflow_add-cost : goal.overflow_add-cost
overflow_add-cost c =
    let g = c.loop-i.invariant in
    record { fits = omega (arith, cheap c.requires g (sym c.decode.ensures ∙ c.in-Ok.is), g.small, g.passing.within, length_is _ c.in_ok-check_length.ensures) }

pub loop-i-preserved : goal.loop-i-preserved
loop-i-preserved c =
    let g = c.loop-i.invariant in
    let lt = c.loop-i-test.true in
    let is = sym c.decode.ensures ∙ c.in-Ok.is in
    record {
      rates = g.rates;
      passing = passing_next _ _ _ _ _ lt (got c.requires g is).is g.passing;
      small = omega (arith, cheap c.requires g is, g.small);
      value = rw (paid c.requires g is, ← (got c.requires g is).value) (price_more _ _ _ _ _ _ lt) ∙ g.value;
    }

pub returns : goal.returns
unfolding gates_of
returns c =
    let g = c.loop-i.invariant in
    ap (λ (x : ℕ). accepted (x ∷ [])) (sym (price_ends _ _ _ _ _ _ c.loop-i-test.false) ∙ g.value)
    ∙ sym (on_records_good _ _ _ _ _ c.in_ok-check_length.ensures c.loop-i-test.false g.passing)
