-- What reading and writing a file accept, and the promises of reading at once. Assumes nothing.
use Rattle.std.proofs.Common.{◌≡◌, sym, ◌∙◌, List, [], ◌∷◌, ℕ, ◌/◌, ◌≤◌, ◌<◌, length, lt-ltb, le-ltb, ltb-false}
use Rattle.std.specs.Prelude.{Result}
use Rattle.std.specs.Result.{IsErrAnd}
use Rattle.card.specs.declared.Refusal.{Refusal}
use Rattle.card.specs.Card.{Answer.accepted, Answer.refused, laid}
use Rattle.card.specs.Answers.{number_of, place_of}
use Rattle.card.proofs.Cards.{refusing_yes, refusing_no, refusing_passed, after_refused, accepted_both}
use Rattle.card.proofs.Exits.{exit}
use Rattle.gates.specs.Records.{is_record}
use Rattle.cascades.specs.Cascades.{records}
use Rattle.cascades.specs.Inner.Checked.{Whole}
use Rattle.cascades.proofs.Answers.{behind_accepted}
use Rattle.cascades.proofs.Checks.{passed}
use Rattle.files.specs.declared.ReadBack.{ReadBack}
use Rattle.files.specs.Files.{read_as, count, lines_in, start_of, note_of, records_of, file_size, write_answer, read_answer, read_records, read_note}
use Rattle.files.proofs.Frames.{Right}
use Rattle.files.proofs.Openings.{Opens, file_accepted, on_file_passed}

-- ---- reading into two rooms

module _ (f room note_room : List ℕ) where
  -- what reading accepts
  pub record ReadsInto (vs : List ℕ) : Type 0 where
    pub opens : Opens 8 1 f
    pub fits : count f ≤ length room / 8
    pub note_fits : start_of 8 f ≤ length note_room
    pub is : vs ≡ lines_in f ∷ count f ∷ start_of 8 f ∷ []

  -- the call's three promises at once where it hands on the refusal e of another, of which is known that it is d
  module _ (e d : Refusal) (is : e ≡ d) (r : Result ReadBack Refusal) (w : IsErrAnd r (λ y. y ≡ e)) where
    pub read_exit : read_answer f (length room) (length note_room) ≡ refused (number_of d) (place_of d)
        → record { answer : read_as r ≡ read_answer f (length room) (length note_room); records_after : room ≡ read_records f room note_room; note_after : note_room ≡ read_note f room note_room }
    unfolding read_records read_note
    read_exit q =
        record { answer = exit _ _ _ is r w ∙ sym q; records_after = sym (after_refused _ _ _ _ room q); note_after = sym (after_refused _ _ _ _ note_room q) }

  module _ (r : Right 8 1 f) (w : Whole (lines_in f) (records_of 8 f) (count f)) where
    pub read_records_small : length room / 8 < count f → read_answer f (length room) (length note_room) ≡ refused 5 (count f)
    unfolding read_answer
    read_records_small lt = on_file_passed 8 1 f r w _ ∙ refusing_yes _ 5 (count f) _ (lt-ltb (length room / 8) (count f) lt)

    module _ (fits : count f ≤ length room / 8) where
      pub read_note_small : length note_room < start_of 8 f → read_answer f (length room) (length note_room) ≡ refused 5 (start_of 8 f)
      unfolding read_answer
      read_note_small lt =
          on_file_passed 8 1 f r w _ ∙ refusing_no _ 5 (count f) _ (le-ltb (length room / 8) (count f) fits) ∙ refusing_yes _ 5 (start_of 8 f) _ (lt-ltb (length note_room) (start_of 8 f) lt)

      module _ (fits' : start_of 8 f ≤ length note_room) where
        pub read_accepted : read_answer f (length room) (length note_room) ≡ accepted (lines_in f ∷ count f ∷ start_of 8 f ∷ [])
        unfolding read_answer
        read_accepted =
            on_file_passed 8 1 f r w _ ∙ refusing_no _ 5 (count f) _ (le-ltb (length room / 8) (count f) fits) ∙ refusing_no _ 5 (start_of 8 f) _ (le-ltb (length note_room) (start_of 8 f) fits')

        pub read_done : (now note_now : List ℕ) → now ≡ laid (records_of 8 f) room → note_now ≡ laid (note_of 8 f) note_room
            → record { answer : accepted (lines_in f ∷ count f ∷ start_of 8 f ∷ []) ≡ read_answer f (length room) (length note_room); records_after : now ≡ read_records f room note_room; note_after : note_now ≡ read_note f room note_room }
        unfolding read_records read_note
        read_done now note_now e e' = record { answer = sym read_accepted; records_after = (accepted_both _ _ _ room now read_accepted e).room_after; note_after = (accepted_both _ _ _ note_room note_now read_accepted e').room_after }

  pub reads_into : (vs : List ℕ) → read_answer f (length room) (length note_room) ≡ accepted vs → ReadsInto vs
  unfolding read_answer
  reads_into vs e =
      let file = file_accepted 8 1 f _ vs e in
      let records_fit = refusing_passed _ 5 (count f) _ vs file.1 in
      let note-fit = refusing_passed _ 5 (start_of 8 f) _ vs records_fit.1 in
      record { opens = file.0; fits = ltb-false (length room / 8) (count f) records_fit.0; note_fits = ltb-false (length note_room) (start_of 8 f) note-fit.0; is = cc note-fit.1 }

-- ---- writing into a room of so many bytes

module _ (n : ℕ) (b note : List ℕ) (room : ℕ) where
  -- what writing accepts
  pub record WritesInto (vs : List ℕ) : Type 0 where
    pub whole : Whole n b (records b)
    pub short : length note ≤ 1024
    pub fits : file_size 8 note b ≤ room
    pub is : vs ≡ file_size 8 note b ∷ []

  module _ (w : Whole n b (records b)) where
    pub write_note_long : 1024 < length note → write_answer n b note room ≡ refused 9 0
    unfolding write_answer
    write_note_long lt = passed n b _ (records b) w ∙ refusing_yes _ 9 0 _ (lt-ltb 1024 (length note) lt)

    module _ (short : length note ≤ 1024) where
      pub write_room_small : room < file_size 8 note b → write_answer n b note room ≡ refused 5 (file_size 8 note b)
      unfolding write_answer
      write_room_small lt =
          passed n b _ (records b) w ∙ refusing_no _ 9 0 _ (le-ltb 1024 (length note) short) ∙ refusing_yes _ 5 (file_size 8 note b) _ (lt-ltb room (file_size 8 note b) lt)

      pub write_accepted : file_size 8 note b ≤ room → write_answer n b note room ≡ accepted (file_size 8 note b ∷ [])
      unfolding write_answer
      write_accepted fits =
          passed n b _ (records b) w ∙ refusing_no _ 9 0 _ (le-ltb 1024 (length note) short) ∙ refusing_no _ 5 (file_size 8 note b) _ (le-ltb room (file_size 8 note b) fits)

  pub writes_into : (vs : List ℕ) → write_answer n b note room ≡ accepted vs → WritesInto vs
  unfolding write_answer
  writes_into vs e =
      let cascade = behind_accepted is_record n b _ vs e in
      let short = refusing_passed _ 9 0 _ vs cascade.1 in
      let fits = refusing_passed _ 5 (file_size 8 note b) _ vs short.1 in
      record { whole = cascade.0; short = ltb-false 1024 (length note) short.0; fits = ltb-false room (file_size 8 note b) fits.0; is = cc fits.1 }
