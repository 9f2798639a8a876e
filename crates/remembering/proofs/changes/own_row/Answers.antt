-- `remembering::changes::own_row` meets its contract, by the cases of the operator. Assumes nothing.
use Rattle.std.proofs.Common.{eq-eqb, ne_eqb}
use Rattle.remembering.specs.Inner.Buffers.{is_gap}
use Rattle.remembering.proofs.changes.own_row.Goals as goal

pub returns-then-g-eq0 : goal.returns-then-g-eq0
unfolding is_gap
returns-then-g-eq0 c = rw (eq-eqb _ 0 c.if-g-eq0.true)

pub returns : goal.returns
unfolding is_gap
returns c = rw (ne_eqb _ 0 c.if-g-eq0.false)
