-- `tabulating::planes::intersect` meets its contract: word by word, and so input by input. Assumes nothing.
use Rattle.std.proofs.Common.{◌/◌, get_or, bit_and, arith, rules}
use Rattle.tabulating.proofs.MadeArrays.{made_same}
use Rattle.tabulating.proofs.PlaneBits.{on_and}
use Rattle.tabulating.proofs.planes.intersect.Goals as goal

pub returns : goal.returns
returns c = λ p lt.
    let a = c.args in
    rw (made_same _ (λ j. bit_and (get_or a.one.now j 0) (get_or a.two.now j 0)) _ (λ j r f k. search rules) _ 12 c.from_fn.ensures.items (p / 64) 0 (omega arith)) (on_and _ _ _)
