-- `gates::quads::apply` meets its contract: the bits that differ where there is a control decide whether the gate fires. Assumes nothing.
use native.Mathlib.Omega.{arith}
use mathlib.Core.Path.{◌∙◌}
use Rattle.gates.proofs.Operators.{act_lt}
use Rattle.gates.proofs.Firing.{quad_stays, quad_moves}
use Rattle.gates.proofs.quads.apply.Goals as goal

pub returns-then-controls-q-ne0 : goal.returns-then-controls-q-ne0
returns-then-controls-q-ne0 c = λ p e. quad_stays _ p _ c.requires.1 e c.if-controls-q-ne0.true

pub with_control-requires : goal.with_control-requires
with_control-requires c =
    let s = c.requires in
    (s.2.low, s.0, rw c.act_on.ensures (omega (arith, act_lt c.args.operator c.control_on.result)))

pub returns : goal.returns
returns c = λ p e.
    c.with_control.ensures ∙ rw (c.act_on.ensures, c.control_on.ensures) (quad_moves _ p _ c.requires.1 e c.if-controls-q-ne0.false c.requires.0)
