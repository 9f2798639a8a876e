-- `texts::laying::put_word` meets its contract: the part of the line is the word's bytes. Assumes nothing.
use Rattle.std.proofs.Common.{◌≡◌, ℕ, div-one, w64, ◌∙◌, arith}
use Rattle.std.specs.Int.{to_le_bytes}
use Rattle.digits.specs.Digits.{digit}
use Rattle.gates.specs.Inner.Words.{bytes_in}
use Rattle.gates.proofs.Bytes.{length_word}
use Rattle.texts.proofs.Writes.{stored_part}
use Rattle.texts.proofs.laying.put_word.Goals as goal

bytes_are : (w : ℕ) → to_le_bytes w64 w ≡ bytes_in w
unfolding bytes_in digit
bytes_are w = simp div-one

pub returns : goal.returns
returns c =
    let a = c.args in
    let bytes : c.copy_from_slice.new.self ≡ bytes_in a.word = c.copy_from_slice.ensures.after ∙ c.to_le_bytes.ensures ∙ bytes_are a.word in
    rw bytes (stored_part a.line.now a.at _ (bytes_in a.word) (omega (arith, length_word a.word)) (omega (arith, length_word a.word, c.told-line, c.requires)))
