-- `tables::entries::invert_entries` meets its contract: the values of the entries so far lead back to their rows, and are apart. Assumes nothing.
use Rattle.std.proofs.Common.{refl, length-set, arith}
use Rattle.ranges.proofs.Places.{found_here, found_nowhere}
use Rattle.tables.proofs.Inverses.{inverting_none, stood, inverting_more, inverting_all, back_there}
use Rattle.tables.proofs.entries.invert_entries.Goals as goal
use Rattle.tables.proofs.entries.invert_entries.Goals.{else-row-i-via-then-row-i+else-table-row, else-row-i-via-else-row-i}

pub loop-i-init : goal.loop-i-init
loop-i-init c = (refl, inverting_none _ _)

pub returns-then-table-row : goal.returns-then-table-row
returns-then-table-row c =
    let w = c.loop-i.invariant.1 in
    let there = stood _ _ _ w c.loop-i-test.true c.if-row-i.true c.if-table-row.true in
    record { value = found_here _ _ _ there c.loop-i-test.true; back = back_there _ _ _ w there }

pub loop-i-preserved : goal.loop-i-preserved
loop-i-preserved c = (
  simp length-set c.loop-i.invariant.0,
  inverting_more _ _ _ c.loop-i.invariant.1 c.loop-i-test.true (omega (arith, c.requires.placed _ c.loop-i-test.true, c.loop-i.invariant.0)) (λ before same. elim c.else-row-i.branch [
    | else-row-i-via-then-row-i+else-table-row w ↦ w.if-table-row.false same
    | else-row-i-via-else-row-i w ↦ absurd (omega (arith, before, w.if-row-i.false))
  ]),
)

pub returns : goal.returns
returns c =
    let w = c.loop-i.invariant.1 in
    let there = inverting_all _ _ _ w c.loop-i-test.false in
    record { value = found_nowhere _ _ (omega (arith, there, c.loop-i-test.false)); back = back_there _ _ _ w there }
