-- `remembering::memory::Memory::look_stretch` meets its contract: no row reaches the change, or none is to be looked at again, or each looks again and
-- the stretch is measured again. Assumes nothing.
use Rattle.std.proofs.Common.{refl, rules, arith}
use Rattle.remembering.proofs.Reaches.{reach_again}
use Rattle.remembering.proofs.memory.Memory.look_stretch.Goals as goal

pub returns-clause-reach_kept : goal.returns-clause-reach_kept
returns-clause-reach_kept g c = λ m w.
    let d = c.look_from-low.ensures in
    reach_again _ _ _ _ _ _ _ _ w refl refl (omega (arith, c.look_from-low.auto.far, c.requires.ahead.room, c.requires.ahead.begun, c.requires.fit.inside)) (search rules) d.below d.above c.furthest.ensures.bound c.furthest.ensures.small

pub returns-clause-looked : goal.returns-clause-looked
returns-clause-looked g c =
    record {
      again = c.look_from-low.ensures;
      bounds = returns-clause-reach_kept g c _ c.requires.bounds;
      marked = c.stretch_stays.ensures.stretches_marked;
    }
