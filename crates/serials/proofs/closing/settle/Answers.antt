-- `serials::closing::settle` meets its contract: each case of the answer to the numbers. Assumes nothing.
use Rattle.std.proofs.Common.{sym, ap, ◌∙◌, length, arith}
use Rattle.card.specs.Card.{Answer.refused}
use Rattle.card.proofs.Cards.{after_refused, after_accepted}
use Rattle.serials.proofs.Closings.{refused_place, numbers_refused, numbers_small, numbers_laid}
use Rattle.serials.proofs.closing.settle.Goals as goal

pub overflow_cast-place : goal.overflow_cast-place
overflow_cast-place c = let p = c.requires in omega (arith, refused_place _ _ _ _ (sym c.in-Err.ensures), c.place.ensures, p.0, p.1)

pub returns-then-table-numbers : goal.returns-then-table-numbers
returns-then-table-numbers c =
    let a = numbers_small _ _ _ (sym c.in-Ok.ensures) c.if-table-numbers.true ∙ ap (refused 5) c.requires.0 in
    record {
      value = c.stop-then-table-numbers.ensures ∙ rw a;
      table_after = sym (after_refused _ 5 _ _ _ a);
    }

pub returns-in-Err : goal.returns-in-Err
returns-in-Err c =
    let a = numbers_refused _ _ (length c.args.table.now) _ _ (sym c.in-Err.ensures) in
    record {
      value = c.stop.ensures ∙ rw (c.number.ensures, c.place.ensures, a);
      table_after = sym (after_refused _ _ _ _ _ a);
    }

pub returns-else-table-numbers : goal.returns-else-table-numbers
returns-else-table-numbers c =
    let a = numbers_laid _ _ _ (sym c.in-Ok.ensures) c.if-table-numbers.false in
    record {
      value = c.stop-in-Ok.ensures ∙ rw a;
      table_after = c.lay.ensures ∙ sym (after_accepted _ _ _ _ a);
    }
