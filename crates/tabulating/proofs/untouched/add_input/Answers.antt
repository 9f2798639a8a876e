-- `tabulating::untouched::add_input` meets its contract. Assumes nothing.
use Rattle.std.proofs.Common.{arith}
use Rattle.tabulating.proofs.PlaneBits.{input_joined}
use Rattle.tabulating.proofs.untouched.add_input.Goals as goal

pub returns : goal.returns
returns c = λ q lq. input_joined c.args.plane.now c.args.p q (omega (arith, c.told-plane, c.requires))
