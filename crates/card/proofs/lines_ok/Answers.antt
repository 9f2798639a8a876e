-- `card::lines_ok` meets its contract. Assumes nothing.
use Rattle.std.proofs.Common.{le-leb}
use Rattle.std.proofs.lemmas.Bool.{lt-leb}
use Rattle.card.specs.Card.{lines_ok}
use Rattle.card.proofs.lines_ok.Goals as goal

pub returns-then-lines-ge1 : goal.returns-then-lines-ge1
unfolding lines_ok
returns-then-lines-ge1 c = rw (le-leb _ _ c.if-lines-ge1.true)

pub returns-else-lines-ge1 : goal.returns-else-lines-ge1
unfolding lines_ok
returns-else-lines-ge1 c = rw (lt-leb _ _ c.if-lines-ge1.false)
