-- `listings::writing::write_head` meets its contract: three labelled numbers and the newline, one behind the other. Assumes nothing.
use Rattle.std.proofs.Common.{ℕ, List, [], ◌∷◌, ◌++◌}
use Rattle.texts.specs.Texts.{ascii, decimal}
use Rattle.texts.proofs.Writes.{wrote_both, fits_first, fits_next}
use Rattle.listings.proofs.Lengths.{head_parts}
use Rattle.listings.proofs.writing.write_head.Goals as goal

-- what is left behind the gates, and behind the lines
abbrev from_cost : ℕ → List ℕ
from_cost cost = (ascii " cost " ++ decimal cost) ++ (10 ∷ [])

abbrev from_gates : ℕ → ℕ → List ℕ
from_gates m cost = (ascii " gates " ++ decimal m) ++ from_cost cost

pub write_labelled-requires : goal.write_labelled-requires
write_labelled-requires c =
    let a = c.args in
    fits_first a.out.now (ascii "lines " ++ decimal a.lines) (from_gates a.gates a.cost) (rw head_parts at c.requires)

pub write_labelled-requires-2 : goal.write_labelled-requires-2
write_labelled-requires-2 c =
    let a = c.args in
    let gates = fits_next c.write_labelled.ensures (from_gates a.gates a.cost) (rw head_parts at c.requires) in
    fits_first c.write_labelled.new.self (ascii " gates " ++ decimal a.gates) (from_cost a.cost) gates

pub write_labelled-requires-3 : goal.write_labelled-requires-3
write_labelled-requires-3 c =
    let a = c.args in
    let gates = fits_next c.write_labelled.ensures (from_gates a.gates a.cost) (rw head_parts at c.requires) in
    let cost = fits_next c.write_labelled-2.ensures (from_cost a.cost) gates in
    fits_first c.write_labelled-2.new.self (ascii " cost " ++ decimal a.cost) (10 ∷ []) cost

pub write_text-requires : goal.write_text-requires
write_text-requires c =
    let a = c.args in
    let gates = fits_next c.write_labelled.ensures (from_gates a.gates a.cost) (rw head_parts at c.requires) in
    fits_next c.write_labelled-3.ensures (10 ∷ []) (fits_next c.write_labelled-2.ensures (from_cost a.cost) gates)

pub returns : goal.returns
returns c =
    rw head_parts (wrote_both c.write_labelled.ensures (wrote_both c.write_labelled-2.ensures (wrote_both c.write_labelled-3.ensures c.write_text.ensures)))
