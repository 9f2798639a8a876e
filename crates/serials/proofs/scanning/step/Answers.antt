-- `serials::scanning::step` meets its contract: each return is a case of a byte. Assumes nothing.
use Rattle.std.proofs.Common.{sym, ◌∙◌, rules}
use Rattle.serials.specs.SerialTexts.{with_digit}
use Rattle.serials.specs.Serials.{stopped, comes_next, digit_taken, mark_taken, stepped}
use Rattle.serials.proofs.SerialTexts.{digit_low}
use Rattle.serials.proofs.Serials.{next_digit}
use Rattle.serials.proofs.scanning.step.Goals as goal

pub returns-then-s-ne0 : goal.returns-then-s-ne0
unfolding stepped
returns-then-s-ne0 c = search rules

pub returns-then-not-comes_next : goal.returns-then-not-comes_next
unfolding stepped stopped
returns-then-not-comes_next c = search rules

pub overflow_add-at : goal.overflow_add-at
unfolding comes_next
overflow_add-at c = search rules

pub returns-then-s-lt730 : goal.returns-then-s-lt730
unfolding stepped mark_taken
returns-then-s-lt730 c = search rules

pub returns-else-s-lt730 : goal.returns-else-s-lt730
unfolding stepped mark_taken
returns-else-s-lt730 c = search rules

-- what can come next and is no mark is a digit
pub overflow_sub-b : goal.overflow_sub-b
overflow_sub-b c =
    let can = sym c.comes_next.ensures ∙ c.if-not-comes_next.false in
    digit_low _ (next_digit _ _ can (sym c.is_mark.ensures ∙ c.if-is_mark.false))

pub returns-in_default : goal.returns-in_default
unfolding stepped stopped with_digit
returns-in_default c = search rules

pub returns : goal.returns
unfolding stepped digit_taken with_digit
returns c = search rules
