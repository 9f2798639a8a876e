-- `gates::quads::quad_of` meets its contract. Assumes nothing.
use Rattle.gates.proofs.Firing.{quad_is}
use Rattle.gates.proofs.quads.quad_of.Goals as goal

pub returns : goal.returns
returns c = quad_is _ c.requires
