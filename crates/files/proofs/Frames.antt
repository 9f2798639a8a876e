-- The frame of a file, over the trailer's size z and the edition e: what a right frame says of the bytes, what the file of a note and a cascade says
-- when it is read, and that a right file is the file of its note and records. Assumes nothing.
use Rattle.std.proofs.Common.{◌≡◌, refl, sym, ◌∙◌, Bool, true, false, ◌&&◌, ⊎_elim, List, [], ◌∷◌, ◌++◌, append_assoc, ℕ, suc, ◌+◌, ◌-◌, ◌*◌, ◌/◌, ◌≤◌, ◌<◌, zero-add, add_assoc, arith, eqb, leb, length, get_or, set, take, drop, length-append, length-drop, take-append-drop, drop_of_length-le, length-take-le, take-add, get_or-append-add, drop-cons, drop-drop, leb-true, le-leb, eqb-true, eq-eqb}
use Rattle.std.proofs.Math.ListN.{get_or-append}
use Rattle.std.proofs.lemmas.List.Edits.{sets}
use Rattle.std.proofs.Math.Seq.{drop-append_seam, take-append_seam}
use Rattle.ranges.proofs.Bools.{and_left, and_right, decide}
use Rattle.ranges.proofs.Stores.{sets_append}
use Rattle.digits.specs.Digits.{digit}
use Rattle.cascades.specs.Cascades.{records}
use Rattle.cascades.specs.Inner.Checked.{Whole}
use Rattle.files.specs.Files.{little_endian, trailer, file_of, file_size, tail_at, trailer_at, distance, count, lines_in, edition, start_of, note_of, records_of, frame_ok}
use Rattle.files.proofs.NumberBytes.{length_little, little_at, number_is, bytes_again}
use Rattle.files.specs.RoundTrips.{Bytes}

-- ---- the bytes of the trailer

module _ (e n m : ℕ) where
  length_front : length (little_endian 4 (8 * m) ++ little_endian 2 m) ≡ 6
  length_front = rw (length-append, length_little 4 (8 * m), length_little 2 m)

  pub length_trailer : length (trailer e n m) ≡ 8
  unfolding trailer
  length_trailer = rw (length-append, length_front)

  trailer_distance : (i : ℕ) → i < 4 → get_or (trailer e n m) i 0 ≡ digit 256 i (8 * m)
  unfolding trailer
  trailer_distance i lt =
      let four = length_little 4 (8 * m) in
      get_or-append (little_endian 4 (8 * m) ++ little_endian 2 m) (n ∷ e ∷ []) 0 i (rw length_front (omega arith))
      ∙ get_or-append (little_endian 4 (8 * m)) (little_endian 2 m) 0 i (rw four lt) ∙ little_at 4 (8 * m) i lt

  trailer_count : (i : ℕ) → i < 2 → get_or (trailer e n m) (4 + i) 0 ≡ digit 256 i m
  unfolding trailer
  trailer_count i lt =
      let four = length_little 4 (8 * m) in
      get_or-append (little_endian 4 (8 * m) ++ little_endian 2 m) (n ∷ e ∷ []) 0 (4 + i) (rw length_front (omega arith))
      ∙ (rw four at (get_or-append-add (little_endian 4 (8 * m)) (little_endian 2 m) i 0)) ∙ little_at 2 m i lt

  trailer_rest : (i : ℕ) → get_or (trailer e n m) (6 + i) 0 ≡ get_or (n ∷ e ∷ []) i 0
  unfolding trailer
  trailer_rest i = rw length_front at (get_or-append-add (little_endian 4 (8 * m) ++ little_endian 2 m) (n ∷ e ∷ []) i 0)

  -- stored part by part
  pub trailer_stored : (room r s : List ℕ) (at : ℕ) → r ≡ sets room at (little_endian 4 (8 * m)) → s ≡ sets r (at + 4) (little_endian 2 m)
      → set (set s (at + 6) n) (at + 7) e ≡ sets room at (trailer e n m)
  unfolding trailer
  trailer_stored room r s at p q =
      let seven : at + 7 ≡ suc (at + 6) = omega arith in
      rw (sets_append (little_endian 4 (8 * m) ++ little_endian 2 m) (n ∷ e ∷ []) room at, sets_append (little_endian 4 (8 * m)) (little_endian 2 m) room at, length_front, length_little 4 (8 * m), seven, q, p)

-- the parts of a file, stored one after the other
pub parts_stored : (note b t room r s : List ℕ) → r ≡ sets room 0 note → s ≡ sets r (length note) b → sets s (length note + length b) t ≡ sets room 0 (note ++ b ++ t)
parts_stored note b t room r s p q =
    rw (sets_append (note ++ b) t room 0, sets_append note b room 0, length-append note b, zero-add (length note + length b), zero-add (length note), q, p)

-- a note, a cascade, and a trailer of the bytes p and the last eight
abbrev pub file_with : List ℕ → ℕ → ℕ → List ℕ → List ℕ → List ℕ
file_with p e n note b = note ++ b ++ (p ++ trailer e n (records b))

-- ---- a right frame

pub record Right (z e : ℕ) (f : List ℕ) : Type 0 where
  pub long : z ≤ length f
  pub of_edition : edition f ≡ e
  pub eight : distance f ≡ 8 * count f
  pub behind : distance f ≤ trailer_at z f
  pub short_note : start_of z f ≤ 1024

module _ (z e : ℕ) (f : List ℕ) where
  pub right : frame_ok z e f ≡ true → Right z e f
  unfolding frame_ok
  right t =
      let a : Bool = leb z (length f) in
      let b : Bool = eqb (edition f) e in
      let c : Bool = eqb (distance f) (8 * count f) in
      let d : Bool = leb (distance f) (trailer_at z f) in
      let abcd = and_left (a && b && c && d) (leb (start_of z f) 1024) t in
      let abc = and_left (a && b && c) d abcd in
      let ab = and_left (a && b) c abc in
      record {
        long = leb-true z (length f) (and_left a b ab);
        of_edition = eqb-true (edition f) e (and_right a b ab);
        eight = eqb-true (distance f) (8 * count f) (and_right (a && b) c abc);
        behind = leb-true (distance f) (trailer_at z f) (and_right (a && b && c) d abcd);
        short_note = leb-true (start_of z f) 1024 (and_right (a && b && c && d) _ t);
      }

  pub frame_last : z ≤ length f → edition f ≡ e → distance f ≡ 8 * count f → distance f ≤ trailer_at z f → leb (start_of z f) 1024 ≡ frame_ok z e f
  unfolding frame_ok
  frame_last long ed eight behind =
      rw (le-leb z (length f) long, eq-eqb (edition f) e ed, eq-eqb (distance f) (8 * count f) eight, le-leb (distance f) (trailer_at z f) behind)

  pub frame_right : Right z e f → frame_ok z e f ≡ true
  frame_right r = sym (frame_last r.long r.of_edition r.eight r.behind) ∙ le-leb (start_of z f) 1024 r.short_note

  pub not_right : (Right z e f → ⊥) → frame_ok z e f ≡ false
  not_right h = ⊎_elim (λ (t : frame_ok z e f ≡ true). absurd (h (right t))) (λ (t : frame_ok z e f ≡ false). t) (decide (frame_ok z e f))

-- ---- where the parts of a right file stand

-- the bytes of the trailer before the last eight
abbrev pub prefix_of : ℕ → List ℕ → List ℕ
prefix_of z f = take (z - 8) (drop (trailer_at z f) f)

module _ (z e : ℕ) (f : List ℕ) (r : Right z e f) where
  pub parts_end : trailer_at z f ≡ start_of z f + distance f
  unfolding start_of
  parts_end = omega (arith, r.behind)

  pub trailer_fits : trailer_at z f + z ≡ length f
  unfolding trailer_at
  trailer_fits = omega (arith, r.long)

  -- the records as the part from the first of them to the trailer
  pub records_part : take (trailer_at z f - start_of z f) (drop (start_of z f) f) ≡ records_of z f
  unfolding records_of
  records_part = let d : trailer_at z f - start_of z f ≡ distance f = omega (arith, parts_end) in rw d

  pub between_count : (trailer_at z f - start_of z f) / 8 ≡ count f
  between_count = omega (arith, parts_end, r.eight)

  pub length_note : length (note_of z f) ≡ start_of z f
  unfolding note_of
  length_note = length-take-le (start_of z f) f (omega (arith, parts_end, trailer_fits))

  pub length_records : length (records_of z f) ≡ distance f
  unfolding records_of
  length_records = length-take-le (distance f) (drop (start_of z f) f) (rw (length-drop (start_of z f) f) (omega (arith, parts_end, trailer_fits)))

  pub records_count : records (records_of z f) ≡ count f
  records_count = omega (arith, length_records, r.eight)

  module _ (eight-more : 8 ≤ z) where
    tail_fits : tail_at f + 8 ≡ length f
    unfolding tail_at
    tail_fits = omega (arith, r.long)

    tail_bytes : drop (tail_at f + 6) f ≡ lines_in f ∷ e ∷ []
    unfolding lines_in edition
    tail_bytes =
        let fits = tail_fits in
        let seven : suc (tail_at f + 6) ≡ tail_at f + 7 = omega arith in
        let last : drop (tail_at f + 7) f ≡ e ∷ [] =
        drop-cons f (tail_at f + 7) 0 (omega arith) ∙ rw (r.of_edition, drop_of_length-le f {i = suc (tail_at f + 7)} (omega arith)) in
        drop-cons f (tail_at f + 6) 0 (omega arith) ∙ rw (seven, last)

    tail_again : Bytes f → trailer e (lines_in f) (count f) ≡ drop (tail_at f) f
    unfolding trailer distance count
    tail_again bytes =
        let fits = tail_fits in
        let four : little_endian 4 (8 * count f) ≡ take 4 (drop (tail_at f) f) = rw (← r.eight) (bytes_again 4 f (tail_at f) bytes (omega arith)) in
        let two : little_endian 2 (count f) ≡ take 2 (drop 4 (drop (tail_at f) f)) = rw (drop-drop 4 (tail_at f) f) (bytes_again 2 f (tail_at f + 4) bytes (omega arith)) in
        let rest : lines_in f ∷ e ∷ [] ≡ drop 6 (drop (tail_at f) f) = rw (drop-drop 6 (tail_at f) f) (sym tail_bytes) in
        rw (four, two, rest, ← take-add 4 2 (drop (tail_at f) f)) (take-append-drop 6 (drop (tail_at f) f))

    trailer_again : Bytes f → prefix_of z f ++ trailer e (lines_in f) (count f) ≡ drop (trailer_at z f) f
    trailer_again bytes =
        let behind : trailer_at z f + (z - 8) ≡ tail_at f = omega (arith, tail_fits, trailer_fits) in
        let d : drop (z - 8) (drop (trailer_at z f) f) ≡ drop (tail_at f) f = drop-drop (z - 8) (trailer_at z f) f ∙ rw behind in
        rw (tail_again bytes, ← d) (take-append-drop (z - 8) (drop (trailer_at z f) f))

    -- the file is its note, its records and its trailer
    pub parts_again : Bytes f → file_with (prefix_of z f) e (lines_in f) (note_of z f) (records_of z f) ≡ f
    unfolding note_of records_of
    parts_again bytes =
        rw (records_count, trailer_again bytes, ← take-add (start_of z f) (distance f) f, ← parts_end) (take-append-drop (trailer_at z f) f)

-- ---- the file of a note and a cascade, read

module _ (p : List ℕ) (e n : ℕ) (note b : List ℕ) where
  abbrev f : List ℕ
  f = file_with p e n note b

  abbrev z : ℕ
  z = length p + 8

  pub length_with : length f ≡ file_size z note b
  unfolding file_size
  length_with = rw (length-append (note ++ b) (p ++ trailer e n (records b)), length-append note b, length-append p (trailer e n (records b)), length_trailer e n (records b))

  with_end : trailer_at z f ≡ length note + length b
  unfolding trailer_at file_size
  with_end = omega (arith, length_with)

  with_tail : tail_at f ≡ length (note ++ b ++ p)
  unfolding tail_at file_size
  with_tail =
      let l : length (note ++ b ++ p) ≡ length note + length b + length p = rw (length-append, length-append) in
      omega (arith, length_with, l)

  with_byte : (k : ℕ) → get_or f (tail_at f + k) 0 ≡ get_or (trailer e n (records b)) k 0
  with_byte k = rw (with_tail, ← append_assoc (note ++ b) p (trailer e n (records b))) (get_or-append-add (note ++ b ++ p) (trailer e n (records b)) k 0)

  pub with_lines : lines_in f ≡ n
  unfolding lines_in
  with_lines = with_byte 6 ∙ trailer_rest e n (records b) 0

  with_edition : edition f ≡ e
  unfolding edition
  with_edition = with_byte 7 ∙ trailer_rest e n (records b) 1

  module _ (w : Whole n b (records b)) where
    with_distance : distance f ≡ length b
    unfolding distance
    with_distance =
        let d : 8 * records b ≡ length b = omega (arith, w.size) in
        number_is 4 (8 * records b) f (tail_at f) (omega (arith, w.most)) (λ i lt. with_byte i ∙ trailer_distance e n (records b) i lt) ∙ d

    pub with_count : count f ≡ records b
    unfolding count
    with_count =
        number_is 2 (records b) f (tail_at f + 4) (omega (arith, w.most)) (λ i lt. rw (add_assoc (tail_at f) 4 i) (with_byte (4 + i) ∙ trailer_count e n (records b) i lt))

    pub with_start : start_of z f ≡ length note
    unfolding start_of
    with_start = omega (arith, with_end, with_distance)

    pub with_note : note_of z f ≡ note
    unfolding note_of
    with_note = rw (with_start, append_assoc note b (p ++ trailer e n (records b))) (take-append_seam note (b ++ (p ++ trailer e n (records b))))

    pub with_records : records_of z f ≡ b
    unfolding records_of
    with_records =
        rw (with_start, with_distance, append_assoc note b (p ++ trailer e n (records b)), drop-append_seam note (b ++ (p ++ trailer e n (records b))))
        (take-append_seam b (p ++ trailer e n (records b)))

    pub with_right : length note ≤ 1024 → Right z e f
    unfolding file_size
    with_right short =
        record {
          long = omega (arith, length_with);
          of_edition = with_edition;
          eight = omega (arith, with_distance, with_count, w.size);
          behind = omega (arith, with_distance, with_end);
          short_note = omega (arith, with_start);
        }

-- ---- the file of edition 1

pub file_with_lem : (n : ℕ) (note b : List ℕ) → file_of n note b ≡ file_with [] 1 n note b
unfolding file_of
file_with_lem n note b = refl

pub file_stored : (n : ℕ) (note b room r s : List ℕ) → r ≡ sets room 0 note → s ≡ sets r (length note) b
    → sets s (length note + length b) (trailer 1 n (records b)) ≡ sets room 0 (file_of n note b)
unfolding file_of
file_stored n note b = parts_stored note b (trailer 1 n (records b))

pub length_file : (n : ℕ) (note b : List ℕ) → length (file_of n note b) ≡ file_size 8 note b
length_file n note b = rw (file_with_lem n note b) (length_with [] 1 n note b)

pub file_again : (f : List ℕ) → Right 8 1 f → Bytes f → file_of (lines_in f) (note_of 8 f) (records_of 8 f) ≡ f
file_again f r bytes = file_with_lem _ _ _ ∙ parts_again 8 1 f r (omega arith) bytes
