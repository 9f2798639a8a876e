-- Which texts get past refusal 14, and what is answered then; every table's text is accepted and gives that table. Assumes nothing.
use Rattle.std.proofs.Common.{◌≡◌, refl, ap, ◌∙◌, ⊎_elim, true, false, not, List, [], ◌∷◌, ◌++◌, ℕ, ◌*◌, ◌^◌, ◌≤◌, ◌<◌, arith, eqb, ltb, length, get_or, length-append, eqb-true, eq-eqb, ltb-false, le-ltb}
use Rattle.std.proofs.Math.ListN.{get_or-append}
use Rattle.std.proofs.Math.Seq.{get_or-append_seam}
use Rattle.std.proofs.lemmas.Bool.{not-false}
use Rattle.ranges.proofs.Bools.{clash}
use Rattle.ranges.proofs.Counts.{lt_or_le}
use Rattle.ranges.proofs.Searches.{found}
use Rattle.digits.proofs.Sizes.{patterns_most}
use Rattle.card.specs.Card.{Answer.accepted, lines_ok, laid}
use Rattle.card.proofs.Cards.{lines_are, good_lines, refusing_no, after_accepted}
use Rattle.tables.specs.Permutations.{Permutation}
use Rattle.tables.proofs.Accepts.{on_table_permutation}
use Rattle.texts.specs.Texts.{decimal}
use Rattle.texts.proofs.Decimals.{width_le, length_decimal}
use Rattle.serials.specs.SerialTexts.{is_digit, byte_before, numbers_of, wrong_byte, first_wrong_byte, on_bytes, entries_answer, end_answer, end_table}
use Rattle.serials.specs.Grammars.{TextOf, SentAs}
use Rattle.serials.proofs.WrongBytes.{wrong_late}
use Rattle.serials.proofs.Cuttings.{wrong_none}
use Rattle.serials.proofs.Grammars.{text_right, right_text}

-- no byte of t is wrong, and its last is a newline
abbrev pub Passes : List ℕ → Type 0
Passes t = (ltb (first_wrong_byte t) (length t) ≡ false) × (not (eqb (byte_before t (length t)) 10) ≡ false)

none_wrong : (t : List ℕ) → ltb (first_wrong_byte t) (length t) ≡ false → (i : ℕ) → i < length t → wrong_byte t i ≡ false
unfolding first_wrong_byte
none_wrong t e i lt = (found (wrong_byte t) 0 (length t)).before i (omega arith) (omega (arith, ltb-false (first_wrong_byte t) (length t) e))

-- a text gets past 14 exactly if it is sent as the grammar says
pub sent_passes : (t xs : List ℕ) → SentAs t xs → Passes t × (numbers_of t ≡ xs)
sent_passes t xs s =
    let g = text_right s.text in
    ((wrong_none t (λ i lt. g.0 i lt (omega (arith, s.short))), rw (eq-eqb (byte_before t (length t)) 10 s.newline)), g.2)

pub passes_sent : (t : List ℕ) → Passes t → SentAs t (numbers_of t)
passes_sent t p =
    let none = none_wrong t p.0 in
    let newline : byte_before t (length t) ≡ 10 = eqb-true (byte_before t (length t)) 10 (not-false (eqb (byte_before t (length t)) 10) p.1) in
    record {
      text = right_text t none (rw newline (unfold is_digit in refl));
      newline = newline;
      short =
          ⊎_elim (λ (lt : 65535 < length t). clash (wrong_byte t 65535) (wrong_late t 65535 (omega arith)).0 (none 65535 lt)) (λ (le : length t ≤ 65535). le)
          (lt_or_le 65535 (length t));
    }

-- ---- the text of a table

-- numbers of at most three digits take four bytes each
text_short : {t xs : List ℕ} → TextOf t xs → ((i : ℕ) → i < length xs → get_or xs i 0 < 1000) → length t ≤ 4 * length xs
text_short TextOf.none small = omega arith
text_short (TextOf.number {t} {xs} x mark text fits m) small =
    let before = text_short text (λ i lt. rw (get_or-append xs (x ∷ []) 0 i lt) at (small i (omega (arith, length-append xs (x ∷ []))))) in
    let here : x < 1000 = rw (get_or-append_seam xs x [] 0) at (small (length xs) (omega (arith, length-append xs (x ∷ [])))) in
    omega
    (arith, before, width_le x 3 (omega arith) here, length_decimal x, length-append (t ++ decimal x) (mark ∷ []), length-append t (decimal x), length-append xs (x ∷ []))

module _ (n : ℕ) (ok : lines_ok n ≡ true) (t xs : List ℕ) (whole : Permutation (3 ^ n) xs) (text : TextOf t xs) (newline : byte_before t (length t) ≡ 10) where
  most : 3 ^ n ≤ 729
  most = patterns_most n (lines_are n ok).1

  pub table_sent : SentAs t xs
  table_sent =
      let short = text_short text (λ i lt. omega (arith, whole.within i (omega (arith, whole.size)), most)) in
      record { text = text; newline = newline; short = omega (arith, short, whole.size, most) }

  entries_accepted : (room : ℕ) → 3 ^ n ≤ room → entries_answer n xs room ≡ accepted (3 ^ n ∷ [])
  unfolding entries_answer
  entries_accepted room enough = on_table_permutation (3 ^ n) xs whole _ ∙ refusing_no _ 5 _ _ (le-ltb room (3 ^ n) enough)

  pub table_accepted_text : (room : ℕ) → 3 ^ n ≤ room → end_answer n t room ≡ accepted (3 ^ n ∷ [])
  unfolding end_answer on_bytes
  table_accepted_text room enough =
      let p = sent_passes t xs table_sent in
      good_lines n _ ok ∙ refusing_no _ 14 _ _ p.0.0 ∙ refusing_no _ 14 _ _ p.0.1 ∙ ap (λ (ys : List ℕ). entries_answer n ys room) p.1
      ∙ entries_accepted room enough

  pub table_in_place : (table : List ℕ) → 3 ^ n ≤ length table → end_table n t table ≡ laid xs table
  unfolding end_table
  table_in_place table enough =
      after_accepted _ _ _ table (table_accepted_text (length table) enough) ∙ ap (λ (ys : List ℕ). laid ys table) (sent_passes t xs table_sent).1
