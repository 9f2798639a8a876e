-- `tabulating::planes::find_firing` meets its contract: the controls, line by line. Assumes nothing.
use Rattle.std.proofs.Common.{◌≡◌, sym, ◌∙◌, ◌<◌, arith}
use Rattle.digits.proofs.Digits.{digit_lt}
use Rattle.ranges.specs.Ranges.{every}
use Rattle.gates.specs.Gates.{fires_on}
use Rattle.tabulating.proofs.PlaneBits.{all_in}
use Rattle.tabulating.proofs.PlaneTurns.{every_next}
use Rattle.tabulating.proofs.planes.find_firing.Goals as goal
use Rattle.tabulating.proofs.planes.find_firing.Goals.{After-control_on-control}

module _ (c : After-control_on-control) where
  low : c.control_on-control.result < 4
  low = rw c.control_on-control.ensures (digit_lt 4 _ _ (omega arith))

pub loop-k-init : goal.loop-k-init
unfolding every
loop-k-init c = λ n f shows p lp. let few = shows.few in all_in p (omega arith)

pub bounds-line-control : goal.bounds-line-control
bounds-line-control c = low (goal.at.bounds-line-control c).After-control_on-control

pub loop-k-preserved : goal.loop-k-preserved
loop-k-preserved c = λ n f shows p lp.
    let few = shows.few in
    c.intersect-firing.ensures p (omega arith)
    ∙ rw (c.control_on-control.ensures, c.loop-k.invariant n f shows p lp, (shows.line c.loop-k.k c.loop-k-test.true).plane _ (digit_lt 4 c.loop-k.k c.args.controls (omega arith)) p lp) (sym (every_next _ c.loop-k.k))

pub returns : goal.returns
unfolding fires_on
returns c = λ n f shows p lp.
    let e : c.loop-k.k ≡ 6 = omega (arith, c.loop-k-test.false, c.loop-k.auto.k-end) in
    rw e at (c.loop-k.invariant n f shows p lp)
