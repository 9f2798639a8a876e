-- A good line by the word of the gate that is guessed: its record is a cascade of one gate. Assumes nothing.
use Rattle.std.proofs.Common.{◌≡◌, sym, ap, ◌∙◌, true, false, List, ℕ, zero, suc, ◌*◌, ◌^◌, ◌<◌, zero-add, arith, get_or}
use Rattle.card.specs.Card.{lines_ok}
use Rattle.card.proofs.Cards.{lines_are}
use Rattle.gates.specs.Records.{is_record, record_of}
use Rattle.gates.specs.Inner.Words.{bytes_in, Word, is_word, gate_of, GateWord}
use Rattle.gates.proofs.Records.{length_record, gate_itself}
use Rattle.gates.proofs.Bytes.{byte_in, word_is, word_gate}
use Rattle.cascades.specs.Inner.Checked.{Whole}
use Rattle.texts.specs.GateTexts.{gate_text}
use Rattle.texts.proofs.Appends.{word_known}
use Rattle.names.specs.Names.{other_name, same_text, good}
use Rattle.names.specs.Inner.Guesses.{guessed}
use Rattle.names.proofs.Guesses.{guess_packed}
use Rattle.names.proofs.GoodLines.{good_by_guess}

module _ (n : ℕ) (l : List ℕ) (w : ℕ) (ok : lines_ok n ≡ true) (low : w < 256 ^ 8) (e : bytes_in w ≡ record_of (guessed l)) where
  word : Word (record_of (guessed l)) 0 w
  word = record { low = low; bytes = λ k lt. rw (zero-add k) (sym (byte_in w k lt) ∙ ap (λ (b : List ℕ). get_or b k 0) e) }

  is_word_lem : is_record n (record_of (guessed l)) 0 ≡ is_word n w
  is_word_lem = word_is (record_of (guessed l)) 0 w word n (omega (arith, length_record (guessed l)))

  pub good_not : is_word n w ≡ false → false ≡ good n l
  good_not none = sym (good_by_guess n (lines_are n ok).1 l ∙ rw (is_word_lem, none))

  module _ (is : is_word n w ≡ true) where
    one : Whole n (record_of (guessed l)) 1
    one = record { lines = ok; size = length_record (guessed l); most = omega arith; each = λ i lt. only i lt }
      where
        only : (i : ℕ) → i < 1 → is_record n (record_of (guessed l)) (8 * i) ≡ true
        only zero lt = is_word_lem ∙ is
        only (suc i) lt = absurd (omega arith)

    pub guess_known : GateWord w
    guess_known = word_known n (record_of (guessed l)) 1 0 w one (omega arith) word

    pub good_text : same_text (gate_text other_name (gate_of w)) l ≡ good n l
    good_text =
        let g : gate_of w ≡ guessed l = sym (word_gate (record_of (guessed l)) 0 w word) ∙ gate_itself (guessed l) (guess_packed l) in
        rw g (sym (good_by_guess n (lines_are n ok).1 l ∙ rw (is_word_lem, is)))
