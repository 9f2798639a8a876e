-- `remembering::buffer::close_gaps` meets its contract: the gates before p stand one behind the other. Assumes nothing.
use Rattle.std.proofs.Common.{◌<◌, arith}
use Rattle.remembering.proofs.Buffers.{length_gates, gates_inside, closing_start, closing_order, closing_room, closing_next, closing_end}
use Rattle.remembering.proofs.buffer.close_gaps.Goals as goal

pub loop-p-init : goal.loop-p-init
loop-p-init c = closing_start _ _

pub keep_record-q-requires : goal.keep_record-q-requires
keep_record-q-requires c =
    let lt : c.loop-p.p < c.args.m = omega arith in
    (closing_order _ _ _ _ _ c.requires (gates_inside _ _ _ lt) c.loop-p.invariant, closing_room _ _ _ _ _ c.requires (gates_inside _ _ _ lt) c.loop-p.invariant)

pub loop-p-preserved : goal.loop-p-preserved
loop-p-preserved c = closing_next _ _ _ _ _ c.requires (gates_inside _ _ _ (omega arith)) c.loop-p.invariant _ _ c.keep_record-q.ensures

pub returns : goal.returns
returns c = closing_end _ _ _ _ _ c.requires (omega (arith, length_gates c.args.b.now c.args.m)) c.loop-p.invariant
