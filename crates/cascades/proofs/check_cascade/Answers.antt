-- `cascades::check_cascade` meets its contract: each return is a case of `check_answer`. Assumes nothing.
use Rattle.std.proofs.Common.{sym, ◌∙◌, arith}
use Rattle.ranges.proofs.Places.{found_some, found_none}
use Rattle.card.proofs.Cards.{no_lines, good_lines}
use Rattle.card.proofs.Exits.{exit}
use Rattle.cascades.specs.Answers.{check_answer}
use Rattle.cascades.proofs.Answers.{on_records_length, on_records_at, on_records_none}
use Rattle.cascades.proofs.check_cascade.Goals as goal

pub returns-in_err-check_lines : goal.returns-in_err-check_lines
unfolding check_answer
returns-in_err-check_lines c = exit _ _ _ c.in_err-check_lines.ensures.1 _ c.from_residual.ensures.1 ∙ sym (no_lines _ _ c.in_err-check_lines.ensures.0)

pub returns-in_err-check_length : goal.returns-in_err-check_length
unfolding check_answer
returns-in_err-check_length c =
    exit _ _ _ c.in_err-check_length.ensures.1 _ c.from_residual-in_err-check_length.ensures.1
    ∙ sym (good_lines _ _ c.in_ok-check_lines.ensures ∙ on_records_length _ _ _ _ c.in_err-check_length.ensures.0)

pub returns-in-Some : goal.returns-in-Some
unfolding check_answer
returns-in-Some c =
    let f = found_some _ _ _ c.in-Some.ensures in
    sym (good_lines _ _ c.in_ok-check_lines.ensures ∙ on_records_at _ _ _ _ _ c.in_ok-check_length.ensures (sym f.0) (omega (arith, f.0, f.1)))

pub returns : goal.returns
unfolding check_answer
returns c = sym (good_lines _ _ c.in_ok-check_lines.ensures ∙ on_records_none _ _ _ _ c.in_ok-check_length.ensures (found_none _ _ c.in_default.ensures))
