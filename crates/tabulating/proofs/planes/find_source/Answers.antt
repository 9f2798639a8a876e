-- `tabulating::planes::find_source` meets its contract. Assumes nothing.
use Rattle.std.proofs.Common.{◌≡◌, ◌∙◌}
use Rattle.gates.specs.Gates.{act, inverse_op}
use Rattle.gates.proofs.Operators.{act_lt}
use Rattle.tabulating.proofs.planes.find_source.Goals as goal

pub returns : goal.returns
returns c =
    let e : c.act_on.result ≡ act (inverse_op c.args.operator) c.args.digit = c.act_on.ensures ∙ rw c.invert_op.ensures in
    (e, rw e (act_lt _ _))
