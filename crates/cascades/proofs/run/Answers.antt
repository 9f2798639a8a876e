-- `cascades::run` meets its contract: each return is a case of `run_answer`. Assumes nothing.
use Rattle.std.proofs.Common.{refl, sym, ap, ◌∙◌, le-leb}
use Rattle.std.proofs.lemmas.Bool.{lt-leb}
use Rattle.card.proofs.Cards.{no_lines, good_lines, lines_are, refusing_yes, refusing_no}
use Rattle.card.proofs.Exits.{exit}
use Rattle.cascades.specs.Answers.{on_cascade, run_answer}
use Rattle.cascades.proofs.Checks.{passed, check_whole, check_refused}
use Rattle.cascades.proofs.run.Goals as goal

pub returns-in_err-check_lines : goal.returns-in_err-check_lines
unfolding run_answer
returns-in_err-check_lines c = exit _ _ _ c.in_err-check_lines.ensures.1 _ c.from_residual.ensures.1 ∙ sym (no_lines _ _ c.in_err-check_lines.ensures.0)

pub power-requires : goal.power-requires
power-requires c = (lines_are _ c.in_ok-check_lines.ensures).1

pub returns-then-pattern-power : goal.returns-then-pattern-power
unfolding run_answer
returns-then-pattern-power c =
    c.run_on.ensures
    ∙ sym (good_lines _ _ c.in_ok-check_lines.ensures ∙ ap (on_cascade _ _) (refusing_no _ _ _ _ (lt-leb _ _ (rw (← c.power.ensures) c.if-pattern-power.true))))

pub returns-in_err-check_cascade : goal.returns-in_err-check_cascade
unfolding run_answer
returns-in_err-check_cascade c = exit _ _ _ refl _ c.from_residual-in_err-check_cascade.ensures.1 ∙ sym (check_refused _ _ _ _ _ (sym c.in_err-check_cascade.ensures))

pub returns : goal.returns
unfolding run_answer
returns c =
    let w = check_whole _ _ _ (sym c.in_ok-check_cascade.ensures) in
    sym (passed _ _ _ _ w ∙ refusing_yes _ _ _ _ (le-leb _ _ (rw c.power.ensures at c.if-pattern-power.false)))
