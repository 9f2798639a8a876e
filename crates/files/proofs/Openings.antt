-- What opening a file says of every call behind 9, 1, 6 and 7. Assumes nothing.
use Rattle.std.proofs.Common.{◌≡◌, refl, sym, ap, ◌∙◌, true, false, not, List, [], ◌∷◌, ℕ, ◌-◌, ◌/◌, ◌≤◌, arith, length, take, drop}
use Rattle.std.proofs.lemmas.Bool.{not-false}
use Rattle.card.specs.Card.{Answer, Answer.accepted, Answer.refused, refusing, on_lines}
use Rattle.card.proofs.Cards.{refusing_yes, refusing_no, refusing_passed}
use Rattle.card.proofs.Fronts.{front, front_of, front_lines, front_refused}
use Rattle.gates.specs.Records.{is_record}
use Rattle.cascades.specs.Inner.Checked.{Whole}
use Rattle.cascades.specs.Answers.{on_cascade}
use Rattle.cascades.proofs.Answers.{front_records, behind_accepted}
use Rattle.cascades.proofs.Checks.{passed}
use Rattle.files.specs.Files.{trailer_at, count, lines_in, start_of, note_of, records_of, frame_ok, on_file, opening_of}
use Rattle.files.proofs.Frames.{Right, right, frame_right, parts_end, trailer_fits, between_count, records_part, records_count}

module _ (z e : ℕ) (f : List ℕ) where
  pub on_file_not : frame_ok z e f ≡ false → (x : Answer) → on_file z e f x ≡ refused 9 0
  unfolding on_file
  on_file_not p x = refusing_yes (not (frame_ok z e f)) 9 0 _ (ap not p)

  pub on_file_on : frame_ok z e f ≡ true → (x : Answer) → on_file z e f x ≡ on_lines (lines_in f) (on_cascade (lines_in f) (records_of z f) x)
  unfolding on_file
  on_file_on p x = refusing_no (not (frame_ok z e f)) 9 0 _ (ap not p)

  -- a file that opens
  pub record Opens : Type 0 where
    pub framed_right : Right z e f
    pub whole : Whole (lines_in f) (records_of z f) (count f)

  -- what stands behind 9, 1, 6 and 7 accepts: the file opens
  pub file_accepted : (x : Answer) (vs : List ℕ) → on_file z e f x ≡ accepted vs → Opens × (x ≡ accepted vs)
  unfolding on_file
  file_accepted x vs says =
      let framed = refusing_passed _ 9 0 _ vs says in
      let r = right z e f (not-false _ framed.0) in
      let behind = behind_accepted is_record (lines_in f) (records_of z f) x vs framed.1 in
      (record { framed_right = r; whole = rw (← records_count z e f r) behind.0 }, behind.1)

  pub opening_accepted : (vs : List ℕ) → opening_of z e f ≡ accepted vs → Opens × (vs ≡ lines_in f ∷ start_of z f ∷ trailer_at z f ∷ [])
  unfolding opening_of
  opening_accepted vs says = let o = file_accepted _ vs says in (o.0, cc o.1)

  -- a refusal is that of every call behind 9, 1, 6 and 7
  pub opening_refused : (k p : ℕ) → opening_of z e f ≡ refused k p → (x : Answer) → on_file z e f x ≡ refused k p
  unfolding opening_of on_file
  opening_refused k p says x =
      front_refused (on_file z e f)
      (front_of (refusing (not (frame_ok z e f)) 9 0) _ (front (not (frame_ok z e f)) 9 0)
      (front_of (on_lines (lines_in f)) _ (front_lines (lines_in f)) (front_records is_record (lines_in f) (records_of z f)))) _ k p says x

  -- a file that opens is let through to what is behind
  pub on_file_passed : Right z e f → Whole (lines_in f) (records_of z f) (count f) → (x : Answer) → on_file z e f x ≡ x
  on_file_passed r w x = on_file_on (frame_right z e f r) x ∙ passed (lines_in f) (records_of z f) x (count f) w

  -- opening goes over the records between the first of them and the trailer
  pub opening_is : (n at end : ℕ) → frame_ok z e f ≡ true → n ≡ lines_in f → at ≡ start_of z f → end ≡ trailer_at z f
      → on_lines n (on_cascade n (take (end - at) (drop at f)) (accepted (n ∷ at ∷ end ∷ []))) ≡ opening_of z e f
  unfolding opening_of
  opening_is n at end ok l s t = rw (l, s, t, records_part z e f (right z e f ok)) (sym (on_file_on ok _))

  -- the numbers of an accepted opening, and the parts between them
  pub record OpensAt (n at end : ℕ) : Type 0 where
    pub framed_right : Right z e f
    pub whole : Whole (lines_in f) (records_of z f) (count f)
    pub lines : n ≡ lines_in f
    pub first : at ≡ start_of z f
    pub last : end ≡ trailer_at z f
    pub ordered : at ≤ end
    pub inside : end ≤ length f
    pub gates : (end - at) / 8 ≡ count f
    pub the_records : take (end - at) (drop at f) ≡ records_of z f
    pub the_note : take at f ≡ note_of z f

  pub opens_at : (n at end : ℕ) → opening_of z e f ≡ accepted (n ∷ at ∷ end ∷ []) → OpensAt n at end
  opens_at n at end says =
      let o = opening_accepted (n ∷ at ∷ end ∷ []) says in
      let r = o.0.framed_right in
      let first : at ≡ start_of z f = cc o.1 in
      let last : end ≡ trailer_at z f = cc o.1 in
      record {
        framed_right = r;
        whole = o.0.whole;
        lines = cc o.1;
        first = first;
        last = last;
        ordered = omega (arith, parts_end z e f r);
        inside = omega (arith, trailer_fits z e f r);
        gates = rw (first, last) (between_count z e f r);
        the_records = rw (first, last) (records_part z e f r);
        the_note = rw first (unfold note_of in refl);
      }
