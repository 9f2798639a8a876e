-- `tabulating::tabulate` meets its contract: each return is a case of `tabulate_answer`. Assumes nothing.
use Rattle.std.proofs.Common.{◌≡◌, refl, sym, ap, ◌∙◌, List, [], ◌∷◌, ◌++◌, ℕ, ◌^◌, drop, length-take-le, lt-ltb, le-ltb}
use Rattle.ranges.proofs.Spans.{length_span}
use Rattle.card.specs.Card.{Answer.accepted, laid}
use Rattle.card.proofs.Cards.{lines_are, refusing_yes, refusing_no, accepted_both}
use Rattle.card.proofs.Exits.{exit_both}
use Rattle.cascades.specs.Cascades.{gates_of, table_for, table_of}
use Rattle.cascades.specs.Inner.Checked.{Whole}
use Rattle.cascades.proofs.Checks.{passed, check_whole, check_count, check_refused}
use Rattle.tabulating.specs.Tabulating.{tabulate_answer, tabulate_room}
use Rattle.tabulating.proofs.tabulate.Goals as goal
use Rattle.tabulating.proofs.tabulate.Goals.{In_ok-m}

-- what checking has found
module _ (c : In_ok-m) where
  whole : Whole c.args.lines c.args.cascade.now c.in_ok-m.m
  whole = let e = sym c.in_ok-m.ensures in rw (check_count _ _ _ e) (check_whole _ _ _ e)

-- a room that holds the table and the rest of what it held
module _ (n : ℕ) (b room : List ℕ) (s : ℕ) (size : s ≡ 3 ^ n) where
  written : (new : List ℕ) → new ≡ table_of n (gates_of b) → new ++ drop s room ≡ laid (table_of n (gates_of b)) room
  unfolding laid table_for
  written new e = rw (e, length_span _ 0 (3 ^ n), size)

pub returns-in_err-m : goal.returns-in_err-m
unfolding tabulate_answer tabulate_room
returns-in_err-m c = exit_both _ _ _ refl _ c.from_residual.ensures.1 _ _ _ (check_refused _ _ _ _ _ (sym c.in_err-m.ensures))

pub power-size-requires : goal.power-size-requires
power-size-requires c = (lines_are _ (whole c).lines).1

pub returns-in_err-check_room : goal.returns-in_err-check_room
unfolding tabulate_answer tabulate_room
returns-in_err-check_room c =
    let w = whole (goal.at.returns-in_err-check_room c).In_ok-m in
    let short = rw c.power-size.ensures at c.in_err-check_room.ensures in
    exit_both _ _ _ short.1 _ c.from_residual-in_err-check_room.ensures.1 _ _ _ (passed _ _ _ _ w ∙ refusing_yes _ _ _ _ (lt-ltb _ _ short.0))

pub slice_bounds-write_table-end : goal.slice_bounds-write_table-end
slice_bounds-write_table-end c = c.in_ok-check_room.ensures

pub write_table-requires : goal.write_table-requires
write_table-requires c = record {
  whole = whole (goal.at.write_table-requires c).In_ok-m;
  table_len = length-take-le _ _ c.in_ok-check_room.ensures ∙ c.power-size.ensures;
}

pub returns : goal.returns
unfolding tabulate_answer tabulate_room
returns c =
    let w = whole (goal.at.returns c).In_ok-m in
    let e = c.power-size.ensures in
    let fits = rw e at c.in_ok-check_room.ensures in
    let r = accepted_both _ _ _ _ _ (passed _ _ _ _ w ∙ refusing_no _ _ _ _ (le-ltb _ _ fits)) (written _ _ _ _ e _ c.write_table.ensures) in record {
      answer = ap (λ (x : ℕ). accepted (x ∷ [])) e ∙ r.answer;
      room_after = r.room_after;
    }
