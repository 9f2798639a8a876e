-- A gate's line laid out by whole words: a word that begins with a text appends it, and one text is appended to the other. Which words begin with
-- which texts is computed. Assumes nothing.
use Rattle.std.proofs.Common.{◌≡◌, refl, sym, ap, ◌∙◌, Bool, true, false, cond, ◌&&◌, List, [], ◌∷◌, ◌++◌, append_assoc, append-nil, ℕ, ◌+◌, ◌-◌, ◌*◌, ◌/◌, ◌%◌, ◌^◌, ◌≤◌, ◌<◌, zero-add, arith, eqb, length, set, drop, take, length-append, take_at, length-take-le, eqb-true}
use Rattle.std.proofs.lemmas.List.Edits.{sets, sets-eq}
use Rattle.std.proofs.Math.Seq.{length-sets}
use Rattle.ranges.specs.Ranges.{first, span, every}
use Rattle.ranges.proofs.Bools.{and_left, and_right, clash}
use Rattle.ranges.proofs.Tests.{every_below}
use Rattle.digits.specs.Digits.{digit}
use Rattle.digits.proofs.Digits.{digit_zero, shift_start, shift_digit, shift_next}
use Rattle.gates.specs.Inner.Words.{byte, Word, bytes_in, gate_of, GateWord}
use Rattle.gates.proofs.Bytes.{length_word, byte_one, byte_high, operator_is, word_is, word_low}
use Rattle.gates.proofs.Marks.{control_word_lem}
use Rattle.gates.proofs.Records.{reads}
use Rattle.card.proofs.Cards.{lines_are}
use Rattle.cascades.specs.Inner.Checked.{Whole}
use Rattle.texts.specs.Texts.{ascii, width, decimal, joined}
use Rattle.texts.specs.GateTexts.{line_text, control_text}
use Rattle.texts.specs.Inner.StoredTexts.{Appended}
use Rattle.texts.specs.Inner.Names.{name_of}
use Rattle.texts.proofs.TextParts.{joined_snoc}
use Rattle.texts.proofs.Names.{both, name_few, name_long, name_begins}

-- ---- texts stored one behind the other

-- bytes that are stored append the text that they begin with
append_run : (line : List ℕ) (at : ℕ) (bytes text more : List ℕ) → bytes ≡ text ++ more → at + length bytes ≤ length line → Appended line at text (sets line at bytes) (at + length text)
append_run line at bytes text more e fits =
    let long : length (take at line ++ text) ≡ at + length text = rw (length-append, length-take-le at line (omega arith)) in
    let back : List ℕ = drop (at + length (text ++ more)) line in
    record {
      starts =
          ap (λ (r : List ℕ). take (at + length text) r)
          (ap (λ (r : List ℕ). sets line at r) e ∙ sets-eq (text ++ more) line at (omega (arith, ap length e)) ∙ ap (λ (r : List ℕ). r ++ back) (sym (append_assoc (take at line) text more)) ∙ append_assoc (take at line ++ text) more back)
          ∙ take_at (take at line ++ text) (more ++ back) (at + length text) long;
      behind = refl;
      long = length-sets line at bytes;
    }

pub append_byte : (line : List ℕ) (at v : ℕ) → at < length line → Appended line at (v ∷ []) (set line at v) (at + 1)
append_byte line at v lt = append_run line at (v ∷ []) (v ∷ []) [] refl (omega arith)

-- bytes that begin with a text
unfoldable begins : List ℕ → List ℕ → Bool
begins [] bytes = true
begins (x ∷ text) [] = false
begins (x ∷ text) (y ∷ bytes) = eqb x y && begins text bytes

begins_is : (text bytes : List ℕ) → begins text bytes ≡ true → bytes ≡ text ++ drop (length text) bytes
unfolding begins
begins_is [] bytes e = refl
begins_is (x ∷ text) [] e = clash false e refl
begins_is (x ∷ text) (y ∷ bytes) e =
    rw (eqb-true x y (and_left (eqb x y) (begins text bytes) e)) (ap (λ (r : List ℕ). y ∷ r) (begins_is text bytes (and_right (eqb x y) (begins text bytes) e)))

-- the bytes of a word begin with a text, which has so many
unfoldable carries : ℕ → List ℕ → ℕ → Bool
carries w text size = begins text (bytes_in w) && eqb size (length text)

module _ (w : ℕ) (text : List ℕ) (size : ℕ) (right : carries w text size ≡ true) where
  carried_size : size ≡ length text
  unfolding carries
  carried_size = eqb-true size (length text) (and_right (begins text (bytes_in w)) (eqb size (length text)) right)

  append_word : (line : List ℕ) (at : ℕ) → at + 8 ≤ length line → Appended line at text (sets line at (bytes_in w)) (at + size)
  unfolding carries
  append_word line at fits =
      let is = begins_is text (bytes_in w) (and_left (begins text (bytes_in w)) (eqb size (length text)) right) in
      rw carried_size (append_run line at (bytes_in w) text (drop (length text) (bytes_in w)) is (rw (length_word w) fits))

pub append_next : {line text piece mid now : List ℕ} {at to next : ℕ} → Appended line at text mid to → Appended mid to piece now next → Appended line at (text ++ piece) now next
append_next {line} {text} {piece} {mid} {now} {at} s t =
    record { starts = t.starts ∙ rw s.starts (append_assoc (take at line) text piece); behind = omega (arith, s.behind, t.behind, length-append text piece); long = t.long ∙ s.long }

-- ---- the words

-- ` x0` with the line added to the digit
abbrev line_word : ℕ → ℕ
line_word t = 0x0030_7820 + 0x0001_0000 * t

line_word_lem : (t : ℕ) → t ≤ 6 → carries (line_word t) (line_text t) 3 ≡ true
unfolding carries begins line_text decimal width first span every digit bytes_in
line_word_lem t le = every_below (λ t. carries (line_word t) (line_text t) 3) 7 refl t (omega arith)

-- ` x0=0` with the line and the value added to the digits, for the control c on line k
abbrev control_word : ℕ → ℕ → ℕ
control_word k c = 0x0030_3d30_7820 + 0x0001_0000 * k + 0x0001_0000_0000 * c

unfoldable control_on : ℕ → ℕ → List ℕ
control_on k c = cond (eqb c 3) [] (line_text k ++ ascii "=" ++ decimal c)

abbrev control_right : ℕ → ℕ → Bool
control_right k c = carries (control_word k c) (control_on k c) (5 - 5 * (c / 3))

control_right_lem : (k c : ℕ) → k < 6 → c < 4 → control_right k c ≡ true
unfolding carries begins control_on line_text decimal width first span every digit bytes_in
control_right_lem k c lt small = every_below (control_right k) 4 (every_below (λ k. every (control_right k) 0 4) 6 refl k lt) c small

-- both bytes of a name, and behind its letters the target's word
pub operator_put : (name : List ℕ × ℕ) (t : ℕ) (line : List ℕ) → t ≤ 6 → length line ≡ 48
    → Appended line 0 (name_of name ++ line_text t) (sets (sets line 0 (both name)) (length (name_of name)) (bytes_in (line_word t))) (length (name_of name) + 3)
operator_put name t line lt long =
    let named = append_run line 0 (both name) (name_of name) _ (name_begins name) (omega (arith, long)) in
    let few : length (name_of name) ≤ 2 = omega (arith, name_long name, name_few name) in
    append_next (rw zero-add at named) (append_word (line_word t) (line_text t) 3 (line_word_lem t lt) (sets line 0 (both name)) (length (name_of name)) (omega (arith, few, length-sets line 0 (both name), long)))

-- ---- a word that was read from a cascade

pub word_known : (n : ℕ) (b : List ℕ) (m i w : ℕ) → Whole n b m → i < m → Word b (8 * i) w → GateWord w
word_known n b m i w whole lt read =
    let is = whole.each i lt in
    let word = sym (word_is b (8 * i) w read n (reads n b (8 * i) is).fits) ∙ is in
    record { small = read.low; op_high = omega (arith, (operator_is b (8 * i) w read n is).1, digit_zero 256 w); on_line = omega (arith, (reads n b (8 * i) is).on_line, read.bytes 1 (omega arith), byte_one w, (lines_are n whole.lines).1); lines = word_low n w word }

-- ---- the loop over the controls

-- those below line k are put, and the bytes of the others are left
pub record Going (w : ℕ) (line₀ : List ℕ) (at : ℕ) (line : List ℕ) (rest to k : ℕ) : Type 0 where
  pub gated : GateWord w
  pub room : length line₀ ≡ 48
  pub within : k ≤ 6
  pub left : rest ≡ w / 0x0001_0000 / 256 ^ k
  pub most : to ≤ 5 + 5 * k
  pub put : Appended line₀ at (joined (span (control_text (gate_of w)) 0 k)) line to

pub going_start : (w : ℕ) (line : List ℕ) (at : ℕ) → GateWord w → length line ≡ 48 → at ≤ 5 → Going w line at line (w / 0x0001_0000) at 0
unfolding joined span
going_start w line at g e le =
    record { gated = g; room = e; within = omega arith; left = shift_start 256 (w / 0x0001_0000); most = le; put = record { starts = sym (append-nil (take at line)); behind = omega arith; long = refl } }

module _ (w : ℕ) (line₀ : List ℕ) (at : ℕ) (line : List ℕ) (rest to k : ℕ) (g : Going w line₀ at line rest to k) (lt : k < 6) where
  value_is : rest % 256 ≡ byte (2 + k) w
  value_is = shift_digit 256 k (w / 0x0001_0000) rest g.left ∙ byte_high k w

  pub value_small : rest % 256 < 4
  value_small = rw value_is (g.gated.lines.each k lt)

  text_is : control_text (gate_of w) k ≡ control_on k (rest % 256)
  unfolding control_text control_on
  text_is = rw (control_word_lem w g.gated.lines k lt, value_is)

  pub turn : Going w line₀ at (sets line to (bytes_in (control_word k (rest % 256)))) (rest / 256) (to + (5 - 5 * (rest % 256 / 3))) (k + 1)
  turn =
      record {
        gated = g.gated;
        room = g.room;
        within = omega arith;
        left = shift_next 256 k (w / 0x0001_0000) rest g.left;
        most = omega (arith, g.most);
        put =
            rw (joined_snoc (control_text (gate_of w)) k, text_is)
            (append_next g.put (append_word (control_word k (rest % 256)) (control_on k (rest % 256)) (5 - 5 * (rest % 256 / 3)) (control_right_lem k (rest % 256) lt value_small) line to (omega (arith, g.most, g.put.long, g.room))));
      }
