-- `tabulating::planes::turn_plane` meets its contract: word by word, and so input by input. Assumes nothing.
use Rattle.std.proofs.Common.{◌/◌, get_or, bit_and, bit_xor, arith, rules}
use Rattle.tabulating.proofs.MadeArrays.{made_same}
use Rattle.tabulating.proofs.PlaneBits.{on_chosen}
use Rattle.tabulating.proofs.planes.turn_plane.Goals as goal

pub returns : goal.returns
returns c = λ p lt.
    let a = c.args in
    rw (made_same _ (λ j. bit_xor (bit_and (bit_xor (get_or a.source.now j 0) (get_or a.old.now j 0)) (get_or a.firing.now j 0)) (get_or a.old.now j 0)) _ (λ j r f k. search rules) _ 12 c.from_fn.ensures.items (p / 64) 0 (omega arith)) (on_chosen _ _ _ _)
