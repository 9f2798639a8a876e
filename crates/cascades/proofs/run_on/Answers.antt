-- `cascades::run_on` meets its contract: the loop keeps the lines of the pattern that the gates so far make of the pattern given. Assumes nothing.
use Rattle.std.proofs.Common.{◌≡◌, sym, ap, ◌∙◌, [], ◌∷◌, ℕ, ◌*◌, ◌/◌, ◌≤◌, ◌^◌, length, arith, lt_of_lt_of_le}
use Rattle.ranges.specs.Ranges.{span}
use Rattle.digits.proofs.Sizes.{patterns_most}
use Rattle.ranges.proofs.Lists.{through_nil}
use Rattle.card.specs.Card.{Answer.accepted}
use Rattle.card.proofs.Cards.{lines_are}
use Rattle.card.proofs.Exits.{exit}
use Rattle.gates.specs.Gates.{applied}
use Rattle.gates.specs.Inner.Quads.{quad}
use Rattle.gates.proofs.Gates.{applied_lt}
use Rattle.gates.proofs.Records.{Gives, gives, gives_gate, gives_no}
use Rattle.gates.proofs.Firing.{quad_held}
use Rattle.cascades.specs.Cascades.{gates_of}
use Rattle.cascades.proofs.Cascades.{run_snoc}
use Rattle.cascades.proofs.Answers.{passing_start, passing_next, on_records_length, on_records_bad, on_records_good}
use Rattle.cascades.proofs.run_on.Goals as goal
use Rattle.cascades.proofs.run_on.Goals.{In-Ok}

-- the gate at the loop's place
module _ (c : In-Ok) where
  got : Gives c.args.lines c.args.cascade.now (8 * c.loop-i.i) c.in-Ok.field-0
  got = gives _ _ _ _ (sym c.decode.ensures ∙ c.in-Ok.is)

pub returns-in_err-check_length : goal.returns-in_err-check_length
returns-in_err-check_length c =
    exit _ _ _ c.in_err-check_length.ensures.1 _ c.from_residual.ensures.1 ∙ sym (on_records_length _ _ _ _ c.in_err-check_length.ensures.0)

pub quad_of-q-requires : goal.quad_of-q-requires
quad_of-q-requires c = omega (arith, c.requires.1, patterns_most _ (lines_are _ c.requires.0).1)

pub loop-i-init : goal.loop-i-init
unfolding span
loop-i-init c = record { passing = passing_start _ _ _ _; lines = c.quad_of-q.ensures ∙ ap quad (sym (through_nil applied _)); below = rw (through_nil applied) c.requires.1 }

pub returns-in_default : goal.returns-in_default
returns-in_default c =
    sym (on_records_bad _ _ _ _ _ c.in_ok-check_length.ensures c.loop-i-test.true (gives_no _ _ _ _ c.requires.0 (sym c.decode.ensures ∙ c.in_default.is)) c.loop-i.invariant.passing)

pub apply-q-requires : goal.apply-q-requires
apply-q-requires c =
    let g = gives_gate _ _ _ _ (got c) in
    (lt_of_lt_of_le g.on_line (lines_are _ c.requires.0).1, g.packed, rw c.loop-i.invariant.lines (quad_held _))

pub loop-i-preserved : goal.loop-i-preserved
loop-i-preserved c =
    let i = c.loop-i.invariant in
    let g = got (goal.at.loop-i-preserved c).In-Ok in
    record {
      passing = passing_next _ _ _ _ _ c.loop-i-test.true g.is i.passing;
      lines = c.apply-q.ensures _ i.lines ∙ ap quad (rw (← g.value) (sym (run_snoc _ _ _)));
      below = rw (run_snoc, g.value) (applied_lt _ _ _ (gives_gate _ _ _ _ g).on_line i.below);
    }

pub returns : goal.returns
unfolding gates_of
returns c =
    let i = c.loop-i.invariant in
    let most : 3 ^ c.args.lines ≤ 729 = patterns_most _ (lines_are _ c.requires.0).1 in
    let all : c.loop-i.i ≡ length c.args.cascade.now / 8 = omega (arith, i.passing.within, c.loop-i-test.false) in
    rw (← all) (ap (λ (x : ℕ). accepted (x ∷ [])) (c.pattern_of.ensures _ (lt_of_lt_of_le i.below most) i.lines))
    ∙ sym (on_records_good _ _ _ _ _ c.in_ok-check_length.ensures c.loop-i-test.false i.passing)
