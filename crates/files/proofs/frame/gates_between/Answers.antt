-- `files::frame::gates_between` meets its contract: each return is a case of 1, 6, 7 or what is behind them. Assumes nothing.
use Rattle.std.proofs.Common.{sym, ◌∙◌}
use Rattle.card.proofs.Cards.{no_lines, good_lines}
use Rattle.card.proofs.Exits.{exit}
use Rattle.gates.proofs.Records.{gives, gives_no}
use Rattle.cascades.proofs.Answers.{passing_next, on_records_length, on_records_bad, on_records_good}
use Rattle.files.proofs.frame.gates_between.Goals as goal

pub returns-in_err-check_lines : goal.returns-in_err-check_lines
returns-in_err-check_lines c = exit _ _ _ c.in_err-check_lines.ensures.1 _ c.from_residual.ensures.1 ∙ sym (no_lines _ _ c.in_err-check_lines.ensures.0)

pub returns-in_err-check_length : goal.returns-in_err-check_length
returns-in_err-check_length c =
    exit _ _ _ c.in_err-check_length.ensures.1 _ c.from_residual-in_err-check_length.ensures.1
    ∙ sym (good_lines _ _ c.in_ok-check_lines.ensures ∙ on_records_length _ _ _ _ c.in_err-check_length.ensures.0)

pub returns-in_default : goal.returns-in_default
returns-in_default c =
    let six = c.in_ok-check_lines.ensures in
    sym (good_lines _ _ six
    ∙ on_records_bad _ _ _ _ _ c.in_ok-check_length.ensures c.loop-i-test.true (gives_no _ _ _ _ six (sym c.in_default.ensures)) c.loop-i.invariant)

pub loop-i-preserved : goal.loop-i-preserved
loop-i-preserved c = passing_next _ _ _ _ _ c.loop-i-test.true (gives _ _ _ _ (sym c.in-Ok.ensures)).is c.loop-i.invariant

pub returns : goal.returns
returns c = sym (good_lines _ _ c.in_ok-check_lines.ensures ∙ on_records_good _ _ _ _ _ c.in_ok-check_length.ensures c.loop-i-test.false c.loop-i.invariant)
