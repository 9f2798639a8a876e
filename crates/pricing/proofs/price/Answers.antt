-- `pricing::price` meets its contract: each return is a case of `price_answer`. Assumes nothing.
use Rattle.std.proofs.Common.{sym, ap, ◌∙◌, not, arith, lt-ltb, le-ltb}
use Rattle.card.proofs.Cards.{no_lines, good_lines, refusing_yes, refusing_no}
use Rattle.card.proofs.Exits.{exit}
use Rattle.boards.specs.Boards.{on_board}
use Rattle.boards.proofs.Boards.{GoodBoard, board_passed}
use Rattle.pricing.specs.Prices.{price_answer}
use Rattle.pricing.proofs.price.Goals as goal

pub returns-in_err-check_lines : goal.returns-in_err-check_lines
unfolding price_answer on_board
returns-in_err-check_lines c = exit _ _ _ c.in_err-check_lines.ensures.1 _ c.from_residual.ensures.1 ∙ sym (no_lines _ _ c.in_err-check_lines.ensures.0)

pub returns-then-value-gt2 : goal.returns-then-value-gt2
unfolding price_answer on_board
returns-then-value-gt2 c =
    let v = c.args.value in
    sym (good_lines _ _ c.in_ok-check_lines.ensures ∙ refusing_yes _ _ _ _ (lt-ltb 2 v (omega (arith, c.if-value-gt2.true))))

pub returns-then-not-set_ok : goal.returns-then-not-set_ok
unfolding price_answer on_board
returns-then-not-set_ok c =
    sym (good_lines _ _ c.in_ok-check_lines.ensures ∙ refusing_no _ _ _ _ (le-ltb _ _ c.if-value-gt2.false) ∙ refusing_yes _ _ _ _ (rw (← c.set_ok.ensures) (ap not c.if-not-set_ok.true)))

pub returns : goal.returns
unfolding price_answer
returns c =
    let board : GoodBoard _ _ _ = record { lines = c.in_ok-check_lines.ensures; value = c.if-value-gt2.false; set = sym c.set_ok.ensures ∙ c.if-not-set_ok.false } in
    c.price_on.ensures ∙ sym (board_passed _ _ _ board _)
