-- `remembering::memory::Memory::look_stretches` meets its contract: no stretch reaches the change, or those before s have been looked at. Assumes
-- nothing.
use Rattle.std.proofs.Common.{◌≡◌, ◌+◌, ◌*◌, refl, rules, arith}
use Rattle.remembering.proofs.Buffers.{gates_inside}
use Rattle.remembering.proofs.Looks.{again_none, looking_next}
use Rattle.remembering.proofs.Reaches.{reach_many}
use Rattle.remembering.proofs.memory.Memory.look_stretches.Goals as goal

pub returns-then-furthest-change-clause-looked : goal.returns-then-furthest-change-clause-looked
returns-then-furthest-change-clause-looked g c =
    let inside = gates_inside c.args.buffer.now.bytes.now c.args.buffer.now.count c.args.change.place c.requires.fit.inside in
    record {
      again = again_none _ _ _ _ _ inside (omega (arith, c.args.buffer.now.few, c.requires.fit.inside))
          (λ r a b l. reach_many _ _ _ _ _ _ _ r c.requires.bounds refl (search rules) c.furthest.ensures.bound c.if-furthest-change.true a b (omega (arith, inside))) c.requires.ahead;
      bounds = c.requires.bounds;
      marked = c.requires.marked;
    }

pub loop-s-preserved : goal.loop-s-preserved
loop-s-preserved g c =
    let more : 16 * (c.loop-s.s + 1) ≡ 16 * c.loop-s.s + 16 = omega arith in
    (rw more (looking_next _ _ _ _ c.requires _ _ _ c.loop-s.invariant.0 (omega arith) _ _ _ _ c.look_stretch.ensures.looked (omega arith) (omega arith) (omega arith)), λ m w. c.look_stretch.ensures.reach_kept m (c.loop-s.invariant.1 m w))
