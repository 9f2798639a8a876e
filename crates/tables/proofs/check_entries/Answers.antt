-- `tables::check_entries` meets its contract: each return is a case of the answer, by the tests that led there. Assumes nothing.
use Rattle.std.proofs.Common.{arith}
use Rattle.ranges.proofs.Places.{found_none}
use Rattle.tables.proofs.Accepts.{check_size, check_large, check_below, check_repeated, check_none, check_permutation}
use Rattle.tables.proofs.Inverses.{inverted}
use Rattle.tables.proofs.check_entries.Goals as goal

pub returns-then-table-patterns-clause-answer : goal.returns-then-table-patterns-clause-answer
returns-then-table-patterns-clause-answer c = check_size _ _ c.if-table-patterns.true

pub returns-in-Some-clause-answer : goal.returns-in-Some-clause-answer
returns-in-Some-clause-answer c = check_large _ _ c.if-table-patterns.false _ c.in-Some.ensures

pub invert_entries-requires-clause-placed : goal.invert_entries-requires-clause-placed
invert_entries-requires-clause-placed c =
    λ p lt. omega (arith, check_below _ _ c.if-table-patterns.false c.in_default.ensures p lt, c.requires.0, c.requires.1)

pub returns-in-Some-invert_entries-clause-answer : goal.returns-in-Some-invert_entries-clause-answer
returns-in-Some-invert_entries-clause-answer c =
    check_repeated _ _ c.if-table-patterns.false c.in_default.ensures _ c.in-Some-invert_entries.ensures.value

pub returns : goal.returns
returns c =
    let size = c.if-table-patterns.false in
    let apart = c.in_default-invert_entries.ensures.value in record {
      answer = check_none _ _ size c.in_default.ensures apart;
      inverted = λ _. inverted _ _ _ _ (check_permutation _ _ size c.in_default.ensures apart) (omega (arith, c.requires.0, c.requires.1, c.invert_entries.auto.inverse)) (found_none _ _ apart) c.invert_entries.ensures.back;
    }
