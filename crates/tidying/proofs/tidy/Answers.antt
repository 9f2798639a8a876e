-- `tidying::tidy` meets its contract: a refusal is that of checking, and else the records are tidied where they lie. Assumes nothing.
use Rattle.std.proofs.Common.{refl, sym, ap₂, ◌∙◌, [], ◌∷◌, ℕ}
use Rattle.card.specs.Card.{Answer.accepted}
use Rattle.card.proofs.Cards.{accepted_both}
use Rattle.card.proofs.Exits.{exit_both}
use Rattle.cascades.proofs.Checks.{passed, check_whole, check_count, check_refused}
use Rattle.rules.specs.Tidying.{tidy_answer, tidy_buffer}
use Rattle.remembering.proofs.Buffers.{holds_start, gates_start}
use Rattle.tidying.proofs.tidy.Goals as goal

pub returns-in_err-m : goal.returns-in_err-m
unfolding tidy_answer tidy_buffer
returns-in_err-m c =
    let w = exit_both _ _ _ refl _ c.from_residual.ensures.1 (tidy_answer c.args.lines c.args.cascade.now) _ _ (check_refused _ _ _ _ _ (sym c.in_err-m.ensures)) in
    record { answer = w.answer; cascade_after = w.room_after }

pub tidy_records-requires : goal.tidy_records-requires
tidy_records-requires c =
    let e = sym c.in_ok-m.ensures in
    let w = check_whole _ _ _ e in
    let count = check_count _ _ _ e in
    record { size = rw count w.size; few = rw count w.most; holds = holds_start _ _ _ w; gates = gates_start _ _ _ w }

pub returns : goal.returns
unfolding tidy_answer tidy_buffer
returns c =
    let w = c.tidy_records.ensures in
    let whole = check_whole _ _ _ (sym c.in_ok-m.ensures) in
    let v = accepted_both (tidy_answer c.args.lines c.args.cascade.now) _ _ _ _ (passed _ _ _ _ whole ∙ ap₂ (λ (x y : ℕ). accepted (x ∷ y ∷ [])) (sym w.count) (sym w.uses)) w.bytes in
    record { answer = v.answer; cascade_after = v.room_after }
