-- `sheets::refusals::write_refusal` meets its contract: two labelled numbers and the newline, one behind the other. Assumes nothing.
use Rattle.std.proofs.Common.{ℕ, List, [], ◌∷◌, ◌++◌, length-append, rules, arith}
use Rattle.card.specs.Answers.{place_of}
use Rattle.texts.specs.Texts.{ascii, decimal}
use Rattle.texts.proofs.Writes.{wrote_both, fits_first, fits_next}
use Rattle.sheets.proofs.SheetAnswers.{refusal_parts}
use Rattle.sheets.proofs.refusals.write_refusal.Goals as goal

-- what is left behind the number
abbrev from_place : ℕ → List ℕ
from_place p = (ascii " at " ++ decimal p) ++ (10 ∷ [])

pub write_labelled-requires : goal.write_labelled-requires
write_labelled-requires c =
    let a = c.args in
    let all = rw (refusal_parts a.file.now _ _ c.requires.0, ← c.number.ensures) at c.requires.1 in
    omega (arith, all, length-append (ascii "refused " ++ decimal c.number.result) (from_place (place_of a.refusal)))

pub write_labelled-requires-2 : goal.write_labelled-requires-2
write_labelled-requires-2 c =
    let all = rw (refusal_parts c.args.file.now _ _ c.requires.0, ← c.number.ensures, ← c.place.ensures) at c.requires.1 in
    fits_first c.write_labelled.new.self (ascii " at " ++ decimal c.place.result) (10 ∷ []) (fits_next c.write_labelled.ensures (from_place c.place.result) (omega (arith, all)))

pub write_text-requires : goal.write_text-requires
write_text-requires c =
    let all = rw (refusal_parts c.args.file.now _ _ c.requires.0, ← c.number.ensures, ← c.place.ensures) at c.requires.1 in
    fits_next c.write_labelled-2.ensures (10 ∷ []) (fits_next c.write_labelled.ensures (from_place c.place.result) (omega (arith, all)))

pub returns : goal.returns
returns c =
    let a = c.args in
    let w = wrote_both (rw c.number.ensures at c.write_labelled.ensures) (wrote_both (rw c.place.ensures at c.write_labelled-2.ensures) c.write_text.ensures) in
    rw (refusal_parts a.file.now _ _ c.requires.0) (search rules)
