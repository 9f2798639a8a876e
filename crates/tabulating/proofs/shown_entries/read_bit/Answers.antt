-- `tabulating::shown_entries::read_bit` meets its contract: a bit is a digit in base 2. Assumes nothing.
use Rattle.digits.specs.Digits.{digit}
use Rattle.tabulating.proofs.PlaneBits.{bit_value}
use Rattle.tabulating.proofs.shown_entries.read_bit.Goals as goal

pub returns : goal.returns
unfolding digit
returns c = bit_value _ _
