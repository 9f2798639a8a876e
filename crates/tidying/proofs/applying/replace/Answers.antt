-- `tidying::applying::replace` meets its contract: the rows are settled for the new gate, and it is stored. Assumes nothing.
use Rattle.tidying.proofs.applying.replace.Goals as goal

pub returns-clause-remembers : goal.returns-clause-remembers
returns-clause-remembers g c =
    let d = c.settle_rows-low.ensures.settled in
    (rw (c.set.ensures.gates_after, c.set.ensures.same_records.1) d.1, d.0)
