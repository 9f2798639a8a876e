-- `tabulating::planes::turn_line` meets its contract: plane by plane. Assumes nothing.
use Rattle.tabulating.proofs.PlaneTurns.{turned_line}
use Rattle.tabulating.proofs.planes.turn_line.Goals as goal

pub returns : goal.returns
returns c = λ n x t shows has.
    turned_line n c.args.line.now c.args.firing.now x t c.args.operator shows has c.requires.0 c.requires.1 _ _ _ _ _ c.find_source.ensures.0 c.find_source-2.ensures.0 c.turn_plane-zero.ensures c.turn_plane-one.ensures c.leave_out-two.ensures
