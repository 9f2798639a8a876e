-- `remembering::buffer::move_record` meets its contract: the record is read before it is stored. Assumes nothing.
use Rattle.std.proofs.Common.{arith}
use Rattle.remembering.proofs.RowWords.{moved_word}
use Rattle.remembering.proofs.buffer.move_record.Goals as goal

pub returns : goal.returns
returns c = rw c.store.ensures (moved_word _ _ _ _ (omega (arith, c.requires)) c.word_at.ensures)
