-- `gates::quads::pattern_of` meets its contract. Assumes nothing.
use Rattle.gates.proofs.Firing.{quad_back}
use Rattle.gates.proofs.quads.pattern_of.Goals as goal

pub returns : goal.returns
returns c = λ p lt e. quad_back p _ lt e
