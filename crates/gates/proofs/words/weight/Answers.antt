-- `gates::words::weight` meets its contract: a shift by 8 k is 256 ^ k. Assumes nothing.
use Rattle.gates.proofs.Bytes.{weight_is}
use Rattle.gates.proofs.words.weight.Goals as goal

pub returns : goal.returns
returns c = weight_is _ c.requires
