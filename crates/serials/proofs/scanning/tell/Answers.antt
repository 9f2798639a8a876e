-- `serials::scanning::tell` meets its contract. Assumes nothing.
use Rattle.std.proofs.Common.{eq-eqb, ne_eqb}
use Rattle.serials.specs.Serials.{told_of}
use Rattle.serials.proofs.scanning.tell.Goals as goal

pub returns-then-s-eq0 : goal.returns-then-s-eq0
unfolding told_of
returns-then-s-eq0 c = rw (eq-eqb _ _ c.if-s-eq0.true)

pub returns-then-s-eq0-2 : goal.returns-then-s-eq0-2
unfolding told_of
returns-then-s-eq0-2 c = rw (ne_eqb _ _ c.if-s-eq0.false, eq-eqb _ _ c.if-s-eq0-2.true)

pub returns : goal.returns
unfolding told_of
returns c = rw (ne_eqb _ _ c.if-s-eq0.false, ne_eqb _ _ c.if-s-eq0-2.false)
