-- `names::read_names` meets its contract: each return is a case of `read_names_answer`. Assumes nothing.
use Rattle.std.proofs.Common.{◌≡◌, refl, sym, ◌∙◌, length, arith, lt-ltb, le-ltb}
use Rattle.card.specs.Card.{Answer}
use Rattle.card.proofs.Cards.{no_lines, good_lines, refusing_yes, refusing_no, refused_both, accepted_both, sets_laid}
use Rattle.card.proofs.Exits.{exit_both}
use Rattle.names.specs.Names.{text_lines, on_text, read_names_answer, read_names_room}
use Rattle.names.proofs.NamedTexts.{found_lines, found_wrong, written_records}
use Rattle.names.proofs.read_names.Goals as goal
use Rattle.names.proofs.read_names.Goals.{In_ok-m}

-- what counting has found
module _ (c : In_ok-m) where
  found : (let a = c.args in ((x : Answer) → on_text a.lines a.text.now x ≡ x) × (c.in_ok-m.m ≡ length (text_lines a.text.now)))
  found = found_lines _ _ _ (sym c.in_ok-m.ensures)

pub returns-in_err-check_lines : goal.returns-in_err-check_lines
unfolding read_names_answer read_names_room
returns-in_err-check_lines c =
    exit_both _ _ _ c.in_err-check_lines.ensures.1 _ c.from_residual.ensures.1 _ _ _ (no_lines _ _ c.in_err-check_lines.ensures.0)

pub returns-in_err-m : goal.returns-in_err-m
unfolding read_names_answer read_names_room
returns-in_err-m c =
    exit_both _ _ _ refl _ c.from_residual-in_err-m.ensures.1 _ _ _ (good_lines _ _ c.in_ok-check_lines.ensures ∙ found_wrong _ _ _ _ _ (sym c.in_err-m.ensures) _)

pub count_lines-requires : goal.count_lines-requires
count_lines-requires c = c.in_ok-check_lines.ensures

pub returns-then-m-gt8000 : goal.returns-then-m-gt8000
unfolding read_names_answer read_names_room
returns-then-m-gt8000 c =
    let f = found (goal.at.returns-then-m-gt8000 c).In_ok-m in
    let e = good_lines _ _ c.in_ok-check_lines.ensures ∙ f.0 _ ∙ refusing_yes _ 6 0 _ (lt-ltb _ _ (rw f.1 at c.if-m-gt8000.true)) in
    refused_both _ _ _ _ _ e

pub returns-in_err-check_room : goal.returns-in_err-check_room
unfolding read_names_answer read_names_room
returns-in_err-check_room c =
    let f = found (goal.at.returns-in_err-check_room c).In_ok-m in
    let short = rw f.1 at c.in_err-check_room.ensures in
    let e = good_lines _ _ c.in_ok-check_lines.ensures ∙ f.0 _ ∙ refusing_no _ 6 0 _ (le-ltb _ _ (rw f.1 at c.if-m-gt8000.false)) ∙ refusing_yes _ 5 _ _ (lt-ltb _ _ short.0) in
    exit_both _ _ _ short.1 _ c.from_residual-in_err-check_room.ensures.1 _ _ _ e

pub write_records-requires : goal.write_records-requires
write_records-requires c =
    let f = found (goal.at.write_records-requires c).In_ok-m in
    let l = rw f.1 at c.in_ok-check_room.ensures in
    omega (arith, l)

pub returns : goal.returns
unfolding read_names_answer read_names_room
returns c =
    let f = found (goal.at.returns c).In_ok-m in
    let l = rw f.1 at c.in_ok-check_room.ensures in
    let e = good_lines _ _ c.in_ok-check_lines.ensures ∙ f.0 _ ∙ refusing_no _ 6 0 _ (le-ltb _ _ (rw f.1 at c.if-m-gt8000.false)) ∙ refusing_no _ 5 _ _ (le-ltb _ _ l) in
    let w = written_records _ _ _ _ e in
    rw f.1 (accepted_both _ _ _ _ _ e (c.write_records.ensures ∙ rw w.0 (sets_laid _ _ (omega (arith, w.1, l)))))
