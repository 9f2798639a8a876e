-- `cascades::lengths::length_ok` meets its contract: the body is the definition. Assumes nothing.
use Rattle.std.proofs.Common.{eq-eqb, ne_eqb}
use Rattle.cascades.specs.Answers.{length_ok}
use Rattle.cascades.proofs.lengths.length_ok.Goals as goal

pub returns-then-len-eq0 : goal.returns-then-len-eq0
unfolding length_ok
returns-then-len-eq0 c = rw (eq-eqb _ _ c.if-len-eq0.true)

pub returns-else-len-eq0 : goal.returns-else-len-eq0
unfolding length_ok
returns-else-len-eq0 c = rw (ne_eqb _ _ c.if-len-eq0.false)
