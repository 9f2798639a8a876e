-- `gates::words::word_at` meets its contract: each byte has its own weight. Assumes nothing.
use Rattle.std.proofs.Common.{refl}
use Rattle.gates.proofs.Bytes.{word_read}
use Rattle.gates.proofs.words.word_at.Goals as goal

pub returns : goal.returns
returns c = word_read _ _ _ _ (λ k. (c.type_inv.bytes k).fits) refl c.from_le_bytes.ensures
