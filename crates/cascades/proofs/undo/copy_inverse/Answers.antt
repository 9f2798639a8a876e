-- `cascades::undo::copy_inverse` meets its contract: the word with the other operator is the record of the inverse. Assumes nothing.
use Rattle.std.proofs.Common.{◌∙◌}
use Rattle.gates.proofs.Bytes.{operator_is}
use Rattle.cascades.proofs.Stored.{word_inverse}
use Rattle.cascades.proofs.undo.copy_inverse.Goals as goal

pub invert_word-w-requires : goal.invert_word-w-requires
invert_word-w-requires c = operator_is _ _ _ c.word_at.ensures _ c.requires.0

pub returns : goal.returns
returns c =
    c.store.ensures ∙ rw (c.invert_word-w.ensures, word_inverse _ _ _ _ c.requires.0 c.word_at.ensures)
