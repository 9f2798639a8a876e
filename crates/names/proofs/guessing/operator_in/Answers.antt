-- `names::guessing::operator_in` meets its contract: each arm is a case. Assumes nothing.
use Rattle.std.proofs.Common.{rules, tests}
use Rattle.names.specs.Inner.Guesses.{operator_in}
use Rattle.names.proofs.guessing.operator_in.Goals as goal

pub returns-in-43-default : goal.returns-in-43-default
unfolding operator_in
returns-in-43-default c = rw (← c.byte_at.ensures, ← c.byte_at-second.ensures) (search (rules, tests))

pub returns-in-49-default : goal.returns-in-49-default
unfolding operator_in
returns-in-49-default c = rw (← c.byte_at.ensures, ← c.byte_at-second.ensures) (search (rules, tests))

pub returns-in_default-eq50 : goal.returns-in_default-eq50
unfolding operator_in
returns-in_default-eq50 c = rw (← c.byte_at.ensures, ← c.byte_at-second.ensures) (search (rules, tests))

pub returns-in_default : goal.returns-in_default
unfolding operator_in
returns-in_default c = rw (← c.byte_at.ensures, ← c.byte_at-second.ensures) (search (rules, tests))
