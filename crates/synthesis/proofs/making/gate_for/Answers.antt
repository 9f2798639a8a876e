-- `synthesis::making::gate_for` meets its contract: the operator exchanges the two digits, and the target has no control. Assumes nothing.
use Rattle.std.proofs.Common.{ap, ◌∙◌}
use Rattle.digits.specs.Digits.{digit}
use Rattle.synthesis.specs.Synthesis.{gate_for}
use Rattle.synthesis.proofs.Controls.{full_line, controls_made}
use Rattle.synthesis.proofs.making.gate_for.Goals as goal

pub returns : goal.returns
unfolding gate_for
returns c =
    λ n a lines line e.
    let k = c.args.k in
    let x = c.control_on.ensures ∙ ap (digit 4 k) e ∙ full_line n a lines k line in
    rw (c.exchanger_of.ensures, x, e, controls_made n a lines k line)
