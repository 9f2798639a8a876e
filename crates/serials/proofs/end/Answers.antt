-- `serials::end` meets its contract. Assumes nothing.
use Rattle.serials.specs.Serials.{ended}
use Rattle.serials.proofs.end.Goals as goal

pub returns-clause-answer : goal.returns-clause-answer
unfolding ended
returns-clause-answer c = rw (c.tell-told.ensures, c.close-scan.ensures.value)
