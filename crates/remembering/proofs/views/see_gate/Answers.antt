-- `remembering::views::see_gate` meets its contract: of a gap nothing is said. Assumes nothing.
use Rattle.remembering.proofs.RowWords.{gate_word, word_known}
use Rattle.remembering.proofs.views.see_gate.Goals as goal

pub see_word-requires : goal.see_word-requires
see_word-requires c = word_known _ _ c.word_of.ensures c.requires c.word_of.type_inv

pub returns : goal.returns
returns c = rw (gate_word _ _ c.word_of.ensures c.requires) at c.see_word.ensures
