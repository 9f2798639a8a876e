-- `tabulating::planes::leave_out` meets its contract: word by word, and so input by input. Assumes nothing.
use Rattle.std.proofs.Common.{◌/◌, get_or, ◌-◌, bit_or, arith, rules}
use Rattle.tabulating.proofs.MadeArrays.{made_same}
use Rattle.tabulating.proofs.PlaneBits.{on_neither}
use Rattle.tabulating.proofs.planes.leave_out.Goals as goal

pub returns : goal.returns
returns c = λ p lt.
    let a = c.args in
    rw (made_same _ (λ j. 0xffff_ffff_ffff_ffff - bit_or (get_or a.one.now j 0) (get_or a.two.now j 0)) _ (λ j r f k. search rules) _ 12 c.from_fn.ensures.items (p / 64) 0 (omega arith)) (on_neither _ _ _ (c.fits-one _) (c.fits-two _) (omega arith))
