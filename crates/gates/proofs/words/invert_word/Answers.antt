-- `gates::words::invert_word` meets its contract: the other bytes stay where they are. Assumes nothing.
use Rattle.gates.proofs.Bytes.{inverse_word}
use Rattle.gates.proofs.words.invert_word.Goals as goal

pub returns : goal.returns
returns c = inverse_word _ c.requires.0 c.requires.1
