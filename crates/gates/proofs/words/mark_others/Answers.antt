-- `gates::words::mark_others` meets its contract: two bytes are the same exactly if nothing is left of them. Assumes nothing.
use Rattle.gates.proofs.Marks.{others_marked}
use Rattle.gates.proofs.words.mark_others.Goals as goal

pub returns : goal.returns
returns c = others_marked _ c.requires.0 _ c.requires.1
