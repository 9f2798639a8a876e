-- `names::write_names` meets its contract: each return is a case of `write_names_answer`. That the words are the operators' names is computed. Assumes nothing.
use Rattle.std.proofs.Common.{◌≡◌, refl, sym, ◌∙◌, zero-add, length, lt-ltb, le-ltb}
use Rattle.card.proofs.Cards.{refusing_yes, refusing_no, accepted_both, sets_laid}
use Rattle.card.proofs.Exits.{exit_both}
use Rattle.cascades.specs.Cascades.{records, gates_of}
use Rattle.cascades.specs.Inner.Checked.{Whole}
use Rattle.cascades.proofs.Checks.{passed, check_whole, check_refused}
use Rattle.texts.specs.GateTexts.{gate_texts}
use Rattle.texts.specs.Inner.Names.{name_of, name_in}
use Rattle.names.specs.Names.{other_name, write_names_answer, write_names_room}
use Rattle.names.proofs.write_names.Goals as goal
use Rattle.names.proofs.write_names.Goals.{In_ok-check_cascade, After-size_gate_texts}

-- what checking has found
module _ (c : In_ok-check_cascade) where
  whole : (let a = c.args in Whole a.lines a.cascade.now (records a.cascade.now))
  whole = check_whole _ _ _ (sym c.in_ok-check_cascade.ensures)

-- how long the text is
module _ (c : After-size_gate_texts) where
  size : c.size_gate_texts.result ≡ length (gate_texts other_name (gates_of c.args.cascade.now))
  unfolding name_in name_of other_name
  size = c.size_gate_texts.ensures.bytes

pub returns-in_err-check_cascade : goal.returns-in_err-check_cascade
unfolding write_names_answer write_names_room
returns-in_err-check_cascade c = exit_both _ _ _ refl _ c.from_residual.ensures.1 _ _ _ (check_refused _ _ _ _ _ (sym c.in_err-check_cascade.ensures))

pub size_gate_texts-requires : goal.size_gate_texts-requires
size_gate_texts-requires c = record { lines = _; whole = whole (goal.at.size_gate_texts-requires c).In_ok-check_cascade }

pub returns-in_err-check_room : goal.returns-in_err-check_room
unfolding write_names_answer write_names_room
returns-in_err-check_room c =
    let short = rw (size (goal.at.returns-in_err-check_room c).After-size_gate_texts) at c.in_err-check_room.ensures in
    exit_both _ _ _ short.1 _ c.from_residual-in_err-check_room.ensures.1 _ _ _
    (passed _ _ _ _ (whole (goal.at.returns-in_err-check_room c).In_ok-check_cascade) ∙ refusing_yes _ _ _ _ (lt-ltb _ _ short.0))

pub write_lines-requires : goal.write_lines-requires
write_lines-requires c =
    let fits = rw (size (goal.at.write_lines-requires c).After-size_gate_texts) at c.in_ok-check_room.ensures in
    (record { lines = _; whole = whole (goal.at.write_lines-requires c).In_ok-check_cascade }, fits)

pub returns : goal.returns
unfolding write_names_answer write_names_room
returns c =
    let w = c.write_lines.ensures in
    let fits = rw (size (goal.at.returns c).After-size_gate_texts) at c.in_ok-check_room.ensures in
    rw (w.behind, zero-add) (accepted_both _ _ _ _ _ (passed _ _ _ _ (whole (goal.at.returns c).In_ok-check_cascade) ∙ refusing_no _ _ _ _ (le-ltb _ _ fits)) (w.bytes ∙ sets_laid _ _ fits))
