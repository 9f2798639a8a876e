-- `serials::closing::close` meets its contract: each return is a case of the end. Assumes nothing.
use Rattle.std.proofs.Common.{◌∙◌}
use Rattle.serials.specs.Serials.{serial}
use Rattle.serials.proofs.Closings.{end_over, end_early, end_many, end_numbers}
use Rattle.serials.proofs.closing.close.Goals as goal

pub returns-then-s-ne0 : goal.returns-then-s-ne0
returns-then-s-ne0 c =
    let a = c.args in
    let ends = end_over (serial a.s a.entries.now) a.table.now c.if-s-ne0.true in
    record { value = ends.0; table_after = ends.1 }

pub returns-then-s-ne10 : goal.returns-then-s-ne10
returns-then-s-ne10 c =
    let a = c.args in
    let ends = end_early (serial a.s a.entries.now) a.table.now c.if-s-ne0.false c.if-s-ne10.true in
    record {
      value = c.stop.ensures ∙ ends.0;
      table_after = ends.1;
    }

pub returns-then-entries-m : goal.returns-then-entries-m
returns-then-entries-m c =
    let a = c.args in
    let ends = end_many (serial a.s a.entries.now) a.table.now c.if-s-ne0.false c.if-s-ne10.false c.if-entries-m.true in
    record {
      value = c.stop-then-entries-m.ensures ∙ ends.0;
      table_after = ends.1;
    }

pub returns : goal.returns
returns c =
    let a = c.args in
    let ends = end_numbers (serial a.s a.entries.now) a.table.now c.if-s-ne0.false c.if-s-ne10.false c.if-entries-m.false in
    record {
      value = c.settle.ensures.value ∙ ends.0;
      table_after = c.settle.ensures.table_after ∙ ends.1;
    }
