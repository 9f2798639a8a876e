-- What a table file is answered: 1 and 2 by its first byte and its length, 3 and 4 by its entries, and else the listing of the synthesized cascade.
-- `listing_sheet` and `room_sheet` say that to list the cascade's records is to write the file's text. Assumes nothing.
use Rattle.std.proofs.Common.{◌≡◌, sym, ap, ◌∙◌, true, false, not, List, [], ◌∷◌, ◌++◌, append_assoc, ℕ, ◌+◌, ◌*◌, ◌/◌, ◌^◌, ◌≤◌, ◌<◌, arith, length, length-append, eq-eqb, ne_eqb, lt-ltb, le-ltb}
use Rattle.std.proofs.lemmas.List.Edits.{sets}
use Rattle.card.specs.Card.{Answer.accepted, Answer.refused, lines_ok, after, laid}
use Rattle.card.proofs.Fronts.{front_refused}
use Rattle.card.proofs.Cards.{lines_are, no_lines, good_lines, refusing_yes, refusing_no, accepted_both, sets_laid}
use Rattle.tables.specs.Tables.{on_table}
use Rattle.tables.specs.Permutations.{Permutation}
use Rattle.tables.proofs.Accepts.{front_table, table_accepted, on_table_permutation}
use Rattle.cascades.specs.Cascades.{gates_of, bytes_of}
use Rattle.cascades.proofs.Checks.{passed}
use Rattle.cascades.proofs.Readings.{bytes_whole, bytes_gates}
use Rattle.synthesis.specs.Synthesis.{synthesized, bound, synthesize_answer, synthesize_room}
use Rattle.synthesis.proofs.Synthesis.{synthesized_cascade}
use Rattle.texts.specs.Texts.{ascii, width, decimal}
use Rattle.listings.specs.Listings.{listing_text, listing_answer, listing_room}
use Rattle.texts.proofs.Decimals.{length_decimal}
use Rattle.sheets.specs.Sheets.{lines_of, entries_of, file_answer, text_for, sheet_text, sheet_answer, sheet_room}
use Rattle.sheets.specs.Inner.TableFiles.{TableFile}

module _ (f : List ℕ) where
  -- ---- the file's answer

  pub file_lines : lines_ok (lines_of f) ≡ false → file_answer f ≡ refused 1 0
  unfolding file_answer
  file_lines e = no_lines (lines_of f) _ e

  pub file_broken : lines_ok (lines_of f) ≡ true → (length f ≡ 1 + 2 * 3 ^ lines_of f → ⊥) → file_answer f ≡ refused 2 0
  unfolding file_answer
  file_broken e ne = good_lines (lines_of f) _ e ∙ refusing_yes _ 2 0 _ (ap not (ne_eqb (length f) (1 + 2 * 3 ^ lines_of f) ne))

  pub file_whole : lines_ok (lines_of f) ≡ true → length f ≡ 1 + 2 * 3 ^ lines_of f → file_answer f ≡ on_table (3 ^ lines_of f) (entries_of f) (accepted [])
  unfolding file_answer
  file_whole e size = good_lines (lines_of f) _ e ∙ refusing_no _ 2 0 _ (ap not (eq-eqb (length f) (1 + 2 * 3 ^ lines_of f) size))

  -- ---- its text

  -- a refusal's line, piece by piece
  module _ (k p : ℕ) (e : file_answer f ≡ refused k p) where
    pub refusal_parts : sheet_text f ≡ (ascii "refused " ++ decimal k) ++ ((ascii " at " ++ decimal p) ++ (10 ∷ []))
    unfolding sheet_text text_for
    refusal_parts = rw e (simp append_assoc)

    pub refusal_length : 13 + width k + width p ≡ length (sheet_text f)
    refusal_length = rw refusal_parts (simp (length-append, length_decimal) (omega arith))

  pub text_listing : file_answer f ≡ accepted [] → sheet_text f ≡ listing_text (lines_of f) (synthesized (lines_of f) (entries_of f))
  unfolding sheet_text text_for
  text_listing e = rw e

  -- ---- the call, by the size of the room

  module _ (room : List ℕ) (size : ℕ) (is : size ≡ length (sheet_text f)) where
    pub sheet_small : length room < size → sheet_answer f (length room) ≡ refused 5 size
    unfolding sheet_answer
    sheet_small lt = rw is (refusing_yes _ 5 _ _ (lt-ltb (length room) (length (sheet_text f)) (omega arith)))

    pub sheet_written : size ≤ length room → (now : List ℕ) → now ≡ sets room 0 (sheet_text f) → record { answer : accepted (size ∷ []) ≡ sheet_answer f (length room); room_after : now ≡ sheet_room f room }
    unfolding sheet_answer sheet_room
    sheet_written le now e =
        rw is
        (accepted_both _ (length (sheet_text f) ∷ []) _ room now (refusing_no _ 5 _ _ (le-ltb (length room) (length (sheet_text f)) (omega arith)))
        (e ∙ sets_laid (sheet_text f) room (omega arith)))

-- ---- what synthesis finds of the entries, with room enough for its records

module _ (f : List ℕ) (n : ℕ) (h : TableFile f n) (t : List ℕ) (entries : t ≡ entries_of f) where
  pub file_on_table : file_answer f ≡ on_table (3 ^ n) t (accepted [])
  file_on_table = rw (entries, h.first) (file_whole f (rw h.first at h.lines) (rw h.first at h.size))

  module _ (perm : Permutation (3 ^ n) t) where
    text_is : sheet_text f ≡ listing_text n (synthesized n t)
    text_is = rw (entries, h.first) (text_listing f (file_on_table ∙ on_table_permutation (3 ^ n) t perm (accepted [])))

    -- the records of the cascade, listed
    listed_text : listing_text n (gates_of (bytes_of (synthesized n t))) ≡ sheet_text f
    listed_text = ap (listing_text n) (bytes_gates n (synthesized n t) (synthesized_cascade n t (lines_are n h.lines).1 perm).gates) ∙ sym text_is

    pub listing_sheet : (room : ℕ) → listing_answer n (bytes_of (synthesized n t)) room ≡ sheet_answer f room
    unfolding listing_answer sheet_answer
    listing_sheet room =
        passed n (bytes_of (synthesized n t)) _ (length (synthesized n t)) (bytes_whole n (synthesized n t) h.lines (synthesized_cascade n t (lines_are n h.lines).1 perm))
        ∙ rw listed_text

    pub room_sheet : (room : List ℕ) → listing_room n (bytes_of (synthesized n t)) room ≡ sheet_room f room
    unfolding listing_room sheet_room
    room_sheet room = rw (listing_sheet (length room), listed_text)

  module _ (L : ℕ) (wide : bound n ≤ L / 8) where
    made : Permutation (3 ^ n) t → synthesize_answer n t L ≡ accepted (length (synthesized n t) ∷ [])
    unfolding synthesize_answer
    made perm = good_lines n _ h.lines ∙ on_table_permutation (3 ^ n) t perm _ ∙ refusing_no _ 5 _ _ (le-ltb (L / 8) (bound n) wide)

    -- a refusal is the file's
    pub made_refused : (k p : ℕ) → refused k p ≡ synthesize_answer n t L → file_answer f ≡ refused k p
    unfolding synthesize_answer
    made_refused k p e =
        let behind : on_table (3 ^ n) t (accepted (length (synthesized n t) ∷ [])) ≡ refused k p =
        ap (on_table (3 ^ n) t) (sym (refusing_no _ 5 _ _ (le-ltb (L / 8) (bound n) wide))) ∙ sym (good_lines n _ h.lines) ∙ sym e in
        file_on_table ∙ front_refused (on_table (3 ^ n) t) (front_table (3 ^ n) t) _ k p behind (accepted [])

    -- accepted, the table is a permutation
    pub made_permutation : (vs : List ℕ) → accepted vs ≡ synthesize_answer n t L → Permutation (3 ^ n) t
    unfolding synthesize_answer
    made_permutation vs e = (table_accepted (3 ^ n) t _ vs (sym (good_lines n _ h.lines) ∙ sym e)).0

    pub made_count : (m : ℕ) → accepted (m ∷ []) ≡ synthesize_answer n t L → m ≡ length (synthesized n t)
    made_count m e =
        let a : accepted (m ∷ []) ≡ accepted (length (synthesized n t) ∷ []) = e ∙ made (made_permutation (m ∷ []) e) in
        cc

  pub made_room : Permutation (3 ^ n) t → (room : List ℕ) → bound n ≤ length room / 8 → synthesize_room n t room ≡ laid (bytes_of (synthesized n t)) room
  unfolding synthesize_room after
  made_room perm room wide = rw (made (length room) wide perm)
