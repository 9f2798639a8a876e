-- `remembering::changes::stretch_stays` meets its contract: no row ends at the change, and all are quiet with what it makes. Assumes nothing.
use Rattle.std.proofs.Common.{◌+◌, ◌*◌, ◌≤◌, length, arith, eqb-true}
use Rattle.remembering.specs.Inner.LentBuffers.{held}
use Rattle.remembering.proofs.Buffers.{length_gates, gates_inside}
use Rattle.remembering.proofs.Looks.{again_stay}
use Rattle.remembering.proofs.Reaches.{none_counted}
use Rattle.remembering.proofs.Stretches.{quiet_rows}
use Rattle.remembering.proofs.changes.stretch_stays.Goals as goal
use Rattle.remembering.proofs.changes.stretch_stays.Goals.{Else-change-s}

module _ (c : Else-change-s) where
  -- the stretch ends before the change
  within : 16 * c.args.s + 16 ≤ length (held c.args.buffer.now)
  within = rw (length_gates c.args.buffer.now.bytes.now c.args.buffer.now.count) (omega (arith, c.if-change-s.false, c.requires.0.early, c.requires.0.inside))

pub slice_copy_out-meets_none : goal.slice_copy_out-meets_none
slice_copy_out-meets_none c = omega (arith, c.mark_stretch.auto.marks, within (goal.at.slice_copy_out-meets_none c).Else-change-s, c.requires.1.room)

pub returns-clause-looked_again : goal.returns-clause-looked_again
returns-clause-looked_again c = λ e.
    let inside = within (goal.at.returns-clause-looked_again c).Else-change-s in
    again_stay _ _ _ _ _ (gates_inside _ _ _ c.requires.0.inside)
    (λ r a b. none_counted _ _ _ _ r (omega arith) (omega (arith, c.requires.2.room, length_gates c.args.buffer.now.bytes.now c.args.buffer.now.count)) (c.count_rows.ensures) (eqb-true _ _ e) a b)
    (λ r a b l real. quiet_rows _ _ _ _ _ _ (c.mark_stretch.ensures.each c.args.s inside) c.args.buffer.now.holds.gates c.requires.0.either c.requires.0.seen (c.meets_none.ensures c.if-not-meets_none.false) r a b (omega arith) real)
    c.requires.2
