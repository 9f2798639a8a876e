-- What a reader hands out: at one place, case by case, and then turn after turn. `reader_gates`: over a file that opens, the gates of its records in
-- order, and then the end for ever. Assumes nothing.
use Rattle.std.proofs.Common.{◌≡◌, refl, sym, ap, ◌∙◌, true, false, List, [], ◌∷◌, ◌++◌, map, ℕ, zero, suc, ◌+◌, ◌*◌, ◌≤◌, ◌<◌, zero-add, suc-add, add_assoc, arith, Bor, leb, length, get_or, drop, replicate, get_or-take, get_or-drop, leb-true, le-leb}
use Rattle.std.proofs.lemmas.Bool.{lt-leb}
use Rattle.ranges.specs.Ranges.{span}
use Rattle.ranges.proofs.Bools.{and_right, and_both}
use Rattle.std.specs.Prelude.{Ok, Err, None}
use Rattle.card.specs.Card.{lines_ok, Answer.accepted}
use Rattle.card.specs.declared.Refusal.{Refusal}
use Rattle.gates.specs.declared.Gate.{Gate}
use Rattle.gates.specs.Records.{is_record, gate_at}
use Rattle.gates.specs.Inner.Decoding.{decoded}
use Rattle.gates.proofs.Records.{gate_ext, decoded_is, gives, gives_no}
use Rattle.cascades.specs.Cascades.{gate_in, gates_of}
use Rattle.cascades.specs.Inner.Checked.{Whole}
use Rattle.cascades.proofs.Readings.{record_ext}
use Rattle.files.specs.Files.{opening_answer, trailer_at, distance, count, lines_in, start_of, records_of}
use Rattle.readers.specs.Readers.{Given, record_stands, as_given, given_at, place_after, turn_at, turn_of, moved_to, handed, Opened}
use Rattle.readers.specs.declared.Reader.{Reader}
use Rattle.files.proofs.Frames.{Right, parts_end, trailer_fits, records_count}
use Rattle.files.proofs.Openings.{opens_at}

pub record_fits : (f : List ℕ) (at end : ℕ) → record_stands f at end ≡ true → at + 8 ≤ length f
unfolding record_stands
record_fits f at end e = leb-true (at + 8) (length f) (and_right (leb (at + 8) end) (leb (at + 8) (length f)) e)

module _ (f : List ℕ) (n at end : ℕ) where
  turn_of_lem : (g : Given) → given_at f n at end ≡ g → turn_at f n at end ≡ record { given = g; at = place_after g at }
  unfolding turn_at
  turn_of_lem g e = rw e

  pub turn_lines : lines_ok n ≡ false → turn_at f n at end ≡ record { given = Err Refusal.Lines; at = at }
  unfolding given_at place_after
  turn_lines e = turn_of_lem (Err Refusal.Lines) (rw e)

  module _ (six : lines_ok n ≡ true) where
    pub turn_end : record_stands f at end ≡ false → turn_at f n at end ≡ record { given = Ok None; at = at }
    unfolding given_at place_after
    turn_end e = turn_of_lem (Ok None) (rw (six, e))

    module _ (stands : record_stands f at end ≡ true) where
      pub turn_not : (r : Refusal) → decoded n f at ≡ Err r → turn_at f n at end ≡ record { given = Err (Refusal.NoGate at); at = at }
      unfolding given_at place_after
      turn_not r e = turn_of_lem (Err (Refusal.NoGate at)) (rw (six, stands, gives_no n f at r six e))

      pub turn_gate : (g : Gate) → decoded n f at ≡ Ok g → turn_at f n at end ≡ record { given = as_given g; at = at + 8 }
      unfolding given_at place_after
      turn_gate g e = let h = gives n f at g e in turn_of_lem (as_given g) (rw (six, stands, h.is, h.value))

    pub turn_hands : record_stands f at end ≡ true → is_record n f at ≡ true → turn_at f n at end ≡ record { given = as_given (gate_at f at); at = at + 8 }
    turn_hands stands is = turn_gate stands _ (decoded_is n f at six is)

-- what k turns hand out, one after the other, each from the place that the one before it left
unfoldable turns_from : List ℕ → ℕ → ℕ → ℕ → ℕ → List Given
turns_from f n at end zero = []
turns_from f n at end (suc k) = (turn_at f n at end).given ∷ turns_from f n (turn_at f n at end).at end k

-- a reader hands out these
handed_turns : (k : ℕ) (r : Reader) → handed r k ≡ turns_from r.file.now r.lines r.at r.end k
unfolding handed turns_from
handed_turns zero r = refl
handed_turns (suc k) r = ap (λ (l : List Given). (turn_of r).given ∷ l) (handed_turns k (moved_to r (turn_of r).at))

-- ---- a record in a part of a file

module _ (f : List ℕ) (r : Right 8 1 f) (w : Whole (lines_in f) (records_of 8 f) (count f)) where
  -- the bytes of record i
  same_bytes : (i : ℕ) → i < count f → (k : ℕ) → k < 8 → get_or (records_of 8 f) (8 * i + k) 0 ≡ get_or f (start_of 8 f + 8 * i + k) 0
  unfolding records_of
  same_bytes i li k lk =
      get_or-take (distance f) (drop (start_of 8 f) f) (8 * i + k) 0 (omega (arith, r.eight)) ∙ get_or-drop (start_of 8 f) f (8 * i + k) 0
      ∙ ap (λ (x : ℕ). get_or f x 0) (sym (add_assoc (start_of 8 f) (8 * i) k))

  fits : (i : ℕ) → i < count f → start_of 8 f + 8 * i + 8 ≤ trailer_at 8 f
  fits i li = omega (arith, parts_end 8 1 f r, r.eight)

  -- the turn at record i
  turn_at_lem : (i : ℕ) → i < count f → turn_at f (lines_in f) (start_of 8 f + 8 * i) (trailer_at 8 f) ≡ record { given = as_given (gate_in (records_of 8 f) i); at = start_of 8 f + 8 * (i + 1) }
  unfolding record_stands
  turn_at_lem i li =
      let inside : start_of 8 f + 8 * i + 8 ≤ length f = omega (arith, fits i li, trailer_fits 8 1 f r) in
      let is = sym (record_ext (lines_in f) (records_of 8 f) f (8 * i) (start_of 8 f + 8 * i) (omega (arith, w.size)) inside (same_bytes i li)) ∙ w.each i li in
      let g : gate_at (records_of 8 f) (8 * i) ≡ gate_at f (start_of 8 f + 8 * i) = gate_ext (records_of 8 f) f (8 * i) (start_of 8 f + 8 * i) (same_bytes i li) in
      let next : start_of 8 f + 8 * i + 8 ≡ start_of 8 f + 8 * (i + 1) = omega arith in
      turn_hands f (lines_in f) (start_of 8 f + 8 * i) (trailer_at 8 f) w.lines
      (and_both (leb (start_of 8 f + 8 * i + 8) (trailer_at 8 f)) (leb (start_of 8 f + 8 * i + 8) (length f)) (le-leb (start_of 8 f + 8 * i + 8) (trailer_at 8 f) (fits i li)) (le-leb (start_of 8 f + 8 * i + 8) (length f) inside)) is
      ∙ rw (g, next)

  -- the turn at the end
  turn_last : turn_at f (lines_in f) (trailer_at 8 f) (trailer_at 8 f) ≡ record { given = Ok None; at = trailer_at 8 f }
  unfolding record_stands
  turn_last = turn_end f (lines_in f) (trailer_at 8 f) (trailer_at 8 f) w.lines (rw (lt-leb (trailer_at 8 f + 8) (trailer_at 8 f) (omega arith)))

  end_stays : (k : ℕ) → turns_from f (lines_in f) (trailer_at 8 f) (trailer_at 8 f) k ≡ replicate k (Ok None)
  unfolding turns_from
  end_stays zero = refl
  end_stays (suc k) = rw (turn_last, end_stays k)

  hands_on : (m i k : ℕ) → i + m ≡ count f
      → turns_from f (lines_in f) (start_of 8 f + 8 * i) (trailer_at 8 f) (m + k) ≡ map as_given (span (gate_in (records_of 8 f)) i m) ++ replicate k (Ok None)
  unfolding turns_from span
  hands_on zero i k e =
      let last : start_of 8 f + 8 * i ≡ trailer_at 8 f = omega (arith, parts_end 8 1 f r, r.eight) in
      rw (zero-add k, last) (end_stays k)
  hands_on (suc m) i k e =
      rw (suc-add m k, turn_at_lem i (omega arith)) (ap (λ (l : List Given). as_given (gate_in (records_of 8 f) i) ∷ l) (hands_on m (i + 1) k (omega arith)))

-- over a file that opens: its gates, and then the end
turns_gates : (f : List ℕ) (n at end : ℕ) → opening_answer f ≡ accepted (n ∷ at ∷ end ∷ []) → (k : ℕ)
    → turns_from f n at end (count f + k) ≡ map as_given (gates_of (records_of 8 f)) ++ replicate k (Ok None)
unfolding gates_of
turns_gates f n at end e k =
    let o = opens_at 8 1 f n at end e in
    let first : at ≡ start_of 8 f + 8 * 0 = omega (arith, o.first) in
    rw (o.lines, first, o.last, records_count 8 1 f o.framed_right) (hands_on f o.framed_right o.whole (count f) 0 k (zero-add (count f)))

-- a reader over a file that opens, asked again and again: the file's gates in order, and then the end for ever
pub reader_gates : (f : Bor (List ℕ)) (r : Reader) (vs : List ℕ) → Opened f r → opening_answer f.now ≡ accepted vs → (k : ℕ)
    → handed r (count f.now + k) ≡ map as_given (gates_of (records_of 8 f.now)) ++ replicate k (Ok None)
reader_gates f r vs o e k =
    let h = o.found vs e in
    handed_turns (count f.now + k) r
    ∙ rw h.0 (turns_gates f.now r.lines r.at r.end (e ∙ ap accepted (sym h.1)) k)
