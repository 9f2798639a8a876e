-- `tabulating::untouched::add_to_line` meets its contract: the other planes stay. Assumes nothing.
use Rattle.std.proofs.Common.{arith}
use Rattle.tabulating.proofs.UntouchedPlanes.{plane_joined}
use Rattle.tabulating.proofs.untouched.add_to_line.Goals as goal

pub returns : goal.returns
returns c = plane_joined c.args.line.now c.args.digit c.args.p _ (omega (arith, c.told-line, c.requires.0)) c.add_input.ensures
