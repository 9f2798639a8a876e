-- `tables::check_inverting` meets its contract: past refusal 1 the answer is that of the entries. Assumes nothing.
use Rattle.std.proofs.Common.{sym, ◌∙◌, arith}
use Rattle.digits.proofs.Sizes.{patterns_most}
use Rattle.card.proofs.Cards.{lines_are, no_lines, good_lines}
use Rattle.card.proofs.Exits.{exit}
use Rattle.tables.specs.Tables.{check_table_answer}
use Rattle.tables.proofs.check_inverting.Goals as goal

pub returns-in_err-check_lines-clause-answer : goal.returns-in_err-check_lines-clause-answer
unfolding check_table_answer
returns-in_err-check_lines-clause-answer c =
    exit _ _ _ c.in_err-check_lines.ensures.1 _ c.from_residual.ensures.1 ∙ sym (no_lines _ _ c.in_err-check_lines.ensures.0)

pub power-requires : goal.power-requires
power-requires c = (lines_are _ c.in_ok-check_lines.ensures).1

pub check_entries-requires : goal.check_entries-requires
check_entries-requires c = (omega (arith, patterns_most _ (lines_are _ c.in_ok-check_lines.ensures).1, c.power.ensures), c.requires)

pub returns-clause-answer : goal.returns-clause-answer
unfolding check_table_answer
returns-clause-answer c = rw c.power.ensures at c.check_entries.ensures.answer ∙ sym (good_lines _ _ c.in_ok-check_lines.ensures)
