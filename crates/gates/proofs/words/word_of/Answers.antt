-- `gates::words::word_of` meets its contract: byte by byte, the first lowest. Assumes nothing.
use mathlib.Core.Path.{ap, ◌∙◌}
use native.Mathlib.Nat.{div-one}
use native.Mathlib.Omega.{arith}
use Rattle.digits.specs.Digits.{digit}
use Rattle.gates.specs.Records.{record_of}
use Rattle.gates.specs.Inner.Words.{bytes_in}
use Rattle.gates.proofs.Bytes.{eight_bytes, word_spread}
use Rattle.gates.proofs.words.word_of.Goals as goal

pub returns : goal.returns
unfolding record_of digit
returns c =
    ap bytes_in (word_spread _ _ _ _ _ c.three_bytes-low.ensures.0 c.three_bytes-high.ensures.0)
    ∙ eight_bytes _ _ _ _ _ _ _ _ (omega arith) (omega arith) (omega arith) (omega arith) (omega arith) (omega arith) (omega arith) (omega arith)
    ∙ simp (div-one, c.from-c.ensures, c.from.ensures, c.from-2.ensures)
