-- `synthesis::making::exchanger_of` meets its contract: each return is a case of the definition. Assumes nothing.
use Rattle.std.proofs.Common.{arith}
use Rattle.std.proofs.lemmas.Bool.Decides.{nat_tests}
use Rattle.synthesis.specs.Synthesis.{exchanger}
use Rattle.synthesis.proofs.making.exchanger_of.Goals as goal

pub returns-in-2 : goal.returns-in-2
unfolding exchanger
returns-in-2 c = grind (arith, nat_tests)

pub returns-in-3 : goal.returns-in-3
unfolding exchanger
returns-in-3 c = grind (arith, nat_tests)

pub returns-in_default : goal.returns-in_default
unfolding exchanger
returns-in_default c = grind (arith, nat_tests)
