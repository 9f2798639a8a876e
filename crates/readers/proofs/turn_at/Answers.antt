-- `readers::turn_at` meets its contract: each return is a case of `turn_at`. Assumes nothing.
use Rattle.std.proofs.Common.{◌≡◌, sym, ◌∙◌, true, ◌+◌, ◌≤◌, length, arith}
use Rattle.card.specs.Card.{lines_ok}
use Rattle.readers.specs.Readers.{record_stands}
use Rattle.readers.proofs.Handed.{record_fits, turn_lines, turn_end, turn_not, turn_gate}
use Rattle.readers.proofs.turn_at.Goals as goal
use Rattle.readers.proofs.turn_at.Goals.{Else-not-lines_ok, Else-not-record_stands}

module _ (c : Else-not-lines_ok) where
  six : lines_ok c.args.lines ≡ true
  six = sym c.lines_ok.ensures ∙ c.if-not-lines_ok.false

module _ (c : Else-not-record_stands) where
  stands : record_stands c.args.file.now c.args.at c.args.end ≡ true
  stands = sym c.record_stands.ensures ∙ c.if-not-record_stands.false

  -- so the place behind the record does not wrap around
  fits : c.args.at + 8 ≤ length c.args.file.now
  fits = record_fits _ _ _ stands

pub returns-then-not-lines_ok : goal.returns-then-not-lines_ok
returns-then-not-lines_ok c = sym (turn_lines _ _ _ _ (sym c.lines_ok.ensures ∙ c.if-not-lines_ok.true))

pub returns-then-not-record_stands : goal.returns-then-not-record_stands
returns-then-not-record_stands c = sym (turn_end _ _ _ _ (six (goal.at.returns-then-not-record_stands c).Else-not-lines_ok) (sym c.record_stands.ensures ∙ c.if-not-record_stands.true))

pub returns-in-Err : goal.returns-in-Err
returns-in-Err c =
    sym (turn_not _ _ _ _ (six (goal.at.returns-in-Err c).Else-not-lines_ok) (stands (goal.at.returns-in-Err c).Else-not-record_stands) _ (sym c.in-Err.ensures))

pub overflow_add-result : goal.overflow_add-result
overflow_add-result c = omega (arith, fits (goal.at.overflow_add-result c).Else-not-record_stands)

pub returns-in-Ok : goal.returns-in-Ok
returns-in-Ok c =
    sym (turn_gate _ _ _ _ (six (goal.at.returns-in-Ok c).Else-not-lines_ok) (stands (goal.at.returns-in-Ok c).Else-not-record_stands) _ (sym c.in-Ok.ensures))
