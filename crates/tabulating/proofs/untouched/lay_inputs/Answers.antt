-- `tabulating::untouched::lay_inputs` meets its contract: line after line is made bare, then input after input is laid. Assumes nothing.
use Rattle.std.proofs.Common.{refl, arith}
use Rattle.tabulating.proofs.UntouchedPlanes.{bare_start, bare_next, bare_all, untouched_start, untouched_shows}
use Rattle.tabulating.proofs.untouched.lay_inputs.Goals as goal

pub loop-line-init : goal.loop-line-init
loop-line-init c = bare_start

pub loop-line-preserved : goal.loop-line-preserved
loop-line-preserved c = bare_next _ _ _ c.loop-line-test.true refl c.loop-line.invariant

pub loop-p-init : goal.loop-p-init
loop-p-init c = rw (bare_all _ _ (omega (arith, c.loop-line-test.false)) c.loop-line.invariant) untouched_start

pub returns : goal.returns
returns c = untouched_shows _ _ c.loop-p.p c.requires (omega (arith, c.loop-p-test.false)) c.loop-p.invariant
