-- `remembering::memory::Memory::settle_rows` meets its contract: the rows before the change are looked at again, its own starts anew, and its stretch is
-- forgotten. Assumes nothing.
use Rattle.std.proofs.Common.{◌≡◌, ℕ, ◌+◌, ◌*◌, ◌%◌, ◌<◌, ◌≤◌, Bool, true, false, cond, length, refl, ◌∙◌, rules, arith, length-set}
use Rattle.remembering.specs.Inner.Buffers.{is_gap}
use Rattle.remembering.specs.Inner.LentBuffers.{held}
use Rattle.remembering.specs.Inner.Rows.{settled_mark}
use Rattle.remembering.proofs.Buffers.{gates_inside}
use Rattle.remembering.proofs.Looks.{again_end, looking_next}
use Rattle.remembering.proofs.Reaches.{reach_set, no_pair_set}
use Rattle.remembering.proofs.Stretches.{marked_set}
use Rattle.remembering.proofs.memory.Memory.settle_rows.Goals as goal

own_near : (b : Bool) (p : ℕ) → p < 8000 → cond b settled_mark (p + 1) % settled_mark ≤ p + 1
own_near true p lt = omega arith
own_near false p lt = omega arith

pub loop-x-preserved : goal.loop-x-preserved
loop-x-preserved g c =
    let from : 16 * (16 * c.loop-x.x) ≡ 256 * c.loop-x.x = omega arith in
    let to : 16 * (16 * c.loop-x.x) + 256 ≡ 256 * (c.loop-x.x + 1) = omega arith in (
      rw (← to) (looking_next c.args.buffer.now c.args.change c.args.self.now 0 (search rules) c.loop-x.self (16 * (16 * c.loop-x.x)) c.loop-x.low (rw (← from) at c.loop-x.invariant.0) (omega arith) _ _ _ _ c.look_stretches.ensures.looked (omega arith) (omega arith) (omega arith)),
      λ m b. c.look_stretches.ensures.reach_kept m (c.loop-x.invariant.1 m b),
    )

pub returns-clause-reach_kept : goal.returns-clause-reach_kept
returns-clause-reach_kept g c = λ m b.
    let p = c.args.change.place in
    let w = c.loop-x.invariant.0 in
    let few : p < 8000 = omega (arith, c.args.buffer.now.few, c.requires.0.inside) in
    let room : p < length c.loop-x.self.far = omega (arith, w.again.len, c.requires.1.known.room, gates_inside c.args.buffer.now.bytes.now c.args.buffer.now.count p c.requires.0.inside) in
    rw c.raise_reach.ensures
    (reach_set _ _ _ _ _ _ (c.loop-x.invariant.1 m b) room (omega (arith, c.requires.1.room.reach_room, c.requires.0.inside)) (omega arith) (rw c.own_row.ensures (omega (arith, own_near (is_gap c.args.change.gate) p few))))

pub returns-clause-settled : goal.returns-clause-settled
returns-clause-settled g c =
    let p = c.args.change.place in
    let w = c.loop-x.invariant.0 in
    let few : p < 8000 = omega (arith, c.args.buffer.now.few, c.requires.0.inside) in
    let inside = gates_inside c.args.buffer.now.bytes.now c.args.buffer.now.count p c.requires.0.inside in
    let early : c.loop-x.low ≤ p = omega (arith, w.again.early, c.requires.0.early) in
    let room : p < length c.loop-x.self.far = omega (arith, w.again.len, c.requires.1.known.room, inside) in (
      w.again.early,
      record {
        count = length-set (held c.args.buffer.now) p c.args.change.gate ∙ c.requires.1.count;
        room = c.requires.1.room;
        within = omega (arith, early, c.requires.0.inside);
        known = again_end _ _ _ _ _ _ _ c.requires.1.known inside few (omega arith) w.again c.own_row.ensures;
        no_pair = no_pair_set c.loop-x.self.far p c.own_row.result c.loop-x.low room (λ l. absurd (omega (arith, early))) (λ r ne l. w.again.settled r (omega arith) l);
        bounds = returns-clause-reach_kept g c _ c.requires.1.bounds;
        marked = marked_set _ _ _ _ _ inside refl w.marked;
      },
    )
