-- `cascades::invert` meets its contract: each return is a case of `invert_answer`. Assumes nothing.
use Rattle.std.proofs.Common.{◌≡◌, refl, sym, ◌∙◌, List, ℕ, ◌*◌, length, arith, lt-ltb, le-ltb}
use Rattle.card.proofs.Cards.{refusing_yes, refusing_no, accepted_both, sets_laid}
use Rattle.card.proofs.Exits.{exit_both}
use Rattle.cascades.specs.Cascades.{records, gates_of, bytes_of, undoing}
use Rattle.cascades.specs.Answers.{invert_answer, invert_room}
use Rattle.cascades.proofs.Cascades.{gates_count}
use Rattle.cascades.proofs.Undone.{length_undoing}
use Rattle.cascades.proofs.Stored.{length_bytes}
use Rattle.cascades.proofs.Checks.{passed, check_whole, check_count, check_refused}
use Rattle.cascades.proofs.invert.Goals as goal

-- the inverse takes as many bytes as the cascade
size : (b : List ℕ) → length (bytes_of (undoing (gates_of b))) ≡ 8 * records b
size b = length_bytes (undoing (gates_of b)) ∙ rw (length_undoing (gates_of b), gates_count b)

pub returns-in_err-m : goal.returns-in_err-m
unfolding invert_answer invert_room
returns-in_err-m c = exit_both _ _ _ refl _ c.from_residual.ensures.1 _ _ _ (check_refused _ _ _ _ _ (sym c.in_err-m.ensures))

pub returns-in_err-check_room : goal.returns-in_err-check_room
unfolding invert_answer invert_room
returns-in_err-check_room c =
    let e = sym c.in_ok-m.ensures in
    let w = check_whole _ _ _ e in
    let short = rw (check_count _ _ _ e) at c.in_err-check_room.ensures in
    exit_both _ _ _ short.1 _ c.from_residual-in_err-check_room.ensures.1 _ _ _ (passed _ _ _ _ w ∙ refusing_yes _ _ _ _ (lt-ltb _ _ short.0))

pub write_undoing-requires-clause-whole : goal.write_undoing-requires-clause-whole
write_undoing-requires-clause-whole c = let e = sym c.in_ok-m.ensures in rw (check_count _ _ _ e) (check_whole _ _ _ e)

pub returns : goal.returns
unfolding invert_answer invert_room
returns c =
    let e = sym c.in_ok-m.ensures in
    let count = check_count _ _ _ e in
    let fits = rw count at c.in_ok-check_room.ensures in
    rw count (accepted_both _ _ _ _ _ (passed _ _ _ _ (check_whole _ _ _ e) ∙ refusing_no _ _ _ _ (le-ltb _ _ fits))
    (c.write_undoing.ensures ∙ sets_laid _ _ (rw (size _) (omega arith))))
