-- `sheets::sheet` meets its contract: 1 by the first byte, 2 by the length, and else the entries' sheet. Assumes nothing.
use Rattle.std.proofs.Common.{◌≡◌, sym, ◌∙◌, true, arith}
use Rattle.card.specs.Card.{lines_ok}
use Rattle.card.proofs.Cards.{lines_are}
use Rattle.sheets.proofs.SheetAnswers.{file_lines, file_broken}
use Rattle.sheets.proofs.sheet.Goals as goal
use Rattle.sheets.proofs.sheet.Goals.{Else-not-lines_ok}

module _ (c : Else-not-lines_ok) where
  six : lines_ok c.lines_of-lines.result ≡ true
  six = sym c.lines_ok.ensures ∙ c.if-not-lines_ok.false

pub list_refusal-requires : goal.list_refusal-requires
list_refusal-requires c =
    file_lines _ (rw c.lines_of-lines.ensures at (sym c.lines_ok.ensures ∙ c.if-not-lines_ok.true))

pub power-size-requires : goal.power-size-requires
power-size-requires c = (lines_are _ (six c)).1

pub list_refusal-requires-then-file-size : goal.list_refusal-requires-then-file-size
list_refusal-requires-then-file-size c =
    let n = c.lines_of-lines.ensures in
    let p = rw n at c.power-size.ensures in
    file_broken _ (rw n at (six (goal.at.list_refusal-requires-then-file-size c).Else-not-lines_ok)) (λ e. omega (arith, p, c.if-file-size.true, e))
