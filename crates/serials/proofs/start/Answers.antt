-- `serials::start` meets its contract. Assumes nothing.
use Rattle.serials.specs.Serials.{started}
use Rattle.serials.proofs.start.Goals as goal

pub returns : goal.returns
unfolding started
returns c = rw (c.tell-told.ensures, c.open-scan.ensures)
