-- `texts::laying::put_controls` meets its contract: at each turn the control on line k is appended to those below it. Assumes nothing.
use Rattle.std.proofs.Common.{arith}
use Rattle.texts.proofs.Appends.{going_start, value_small, turn}
use Rattle.texts.proofs.laying.put_controls.Goals as goal

pub loop-k-init : goal.loop-k-init
loop-k-init c = going_start _ _ _ c.requires.0 c.told-line c.requires.1

pub overflow_sub-to : goal.overflow_sub-to
overflow_sub-to c =
    omega (arith, value_small _ _ _ _ _ _ _ c.loop-k.invariant c.loop-k-test.true)

pub loop-k-preserved : goal.loop-k-preserved
loop-k-preserved c =
    rw c.put_word.ensures (turn _ _ _ _ _ _ _ c.loop-k.invariant c.loop-k-test.true)
