-- The two round trips. `names_written_read`: the text that was written of a cascade is accepted and read back to the same bytes. `names_read_written`:
-- each accepted text is exactly what writing its cascade gives. Assumes nothing.
use Rattle.std.proofs.Common.{◌≡◌, sym, ap, subst, ◌∙◌, List, [], ◌∷◌, ℕ, ◌*◌, ◌/◌, ◌≤◌, length, take, le-ltb}
use Rattle.card.specs.Card.{Answer.accepted, laid}
use Rattle.card.proofs.Cards.{refusing_no, refusing_passed, after_accepted, laid_front}
use Rattle.cascades.specs.Cascades.{records, gates_of, bytes_of}
use Rattle.cascades.specs.Inner.Checked.{Whole}
use Rattle.cascades.proofs.Cascades.{gates_count, whole_cascade}
use Rattle.cascades.proofs.Checks.{passed}
use Rattle.cascades.proofs.Answers.{behind_accepted}
use Rattle.cascades.proofs.Readings.{bytes_whole, bytes_gates, bytes_again}
use Rattle.cascades.proofs.Stored.{length_bytes}
use Rattle.gates.specs.declared.Gate.{Gate}
use Rattle.gates.specs.Records.{is_record}
use Rattle.texts.specs.GateTexts.{gate_texts}
use Rattle.names.specs.Names.{other_name, gates_named, read_names_answer, read_names_room, write_names_answer, write_names_room}
use Rattle.names.specs.NameTrips.{ReadsBack, WritesBack}
use Rattle.names.proofs.NamedTexts.{legible, gates_named_count, accepted_text, text_accepted}

-- ---- writing

-- a cascade that fits is accepted
writes : (n : ℕ) (b room : List ℕ) (m : ℕ) → Whole n b m → length (gate_texts other_name (gates_of b)) ≤ length room → WritesBack n b (gate_texts other_name (gates_of b)) room
unfolding write_names_answer write_names_room
writes n b room m w fits =
    let e = passed n b _ m w ∙ refusing_no _ 5 _ _ (le-ltb (length room) (length (gate_texts other_name (gates_of b))) fits) in
    record { answer = e; the_text = after_accepted _ _ _ room e }

-- what an accepted answer says
record Wrote (n : ℕ) (b : List ℕ) (s : ℕ) : Type 0 where
  whole : Whole n b (records b)
  size : s ≡ length (gate_texts other_name (gates_of b))

wrote : (n : ℕ) (b : List ℕ) (room s : ℕ) → write_names_answer n b room ≡ accepted (s ∷ []) → Wrote n b s
unfolding write_names_answer
wrote n b room s e =
    let behind = behind_accepted is_record n b _ (s ∷ []) e in
    let same = (refusing_passed _ 5 _ _ (s ∷ []) behind.1).1 in
    record { whole = behind.0; size = cc }

text_written : (n : ℕ) (b room : List ℕ) (s : ℕ) → write_names_answer n b (length room) ≡ accepted (s ∷ []) → take s (write_names_room n b room) ≡ gate_texts other_name (gates_of b)
unfolding write_names_room
text_written n b room s e = rw (after_accepted _ (s ∷ []) (laid (gate_texts other_name (gates_of b)) room) room e) (laid_front s (gate_texts other_name (gates_of b)) room (sym (wrote n b (length room) s e).size))

-- ---- reading

reads : (n : ℕ) (b room : List ℕ) → Whole n b (records b) → records b ≤ length room / 8 → ReadsBack n b (gate_texts other_name (gates_of b)) room
unfolding read_names_room
reads n b room w fits =
    let h = text_accepted n (gates_of b) (length room) w.lines (whole_cascade n b (records b) w) (rw (gates_count b) fits) in
    let e : read_names_answer n (gate_texts other_name (gates_of b)) (length room) ≡ accepted (records b ∷ []) = h.0 ∙ rw (gates_count b) in
    record { answer = e; the_records = after_accepted _ _ _ room e ∙ rw (h.1, bytes_again n b (records b) w) }

records_read : (n : ℕ) (t room : List ℕ) (m : ℕ) → read_names_answer n t (length room) ≡ accepted (m ∷ []) → take (8 * m) (read_names_room n t room) ≡ bytes_of (gates_named n t)
unfolding read_names_room
records_read n t room m e =
    let long : length (bytes_of (gates_named n t)) ≡ 8 * m = length_bytes (gates_named n t) ∙ rw (gates_named_count n t, ← (legible n t (length room) m e).count) in
    rw (after_accepted _ (m ∷ []) (laid (bytes_of (gates_named n t)) room) room e) (laid_front (8 * m) (bytes_of (gates_named n t)) room long)

-- ---- both ways

pub names_written_read : (n : ℕ) (b room : List ℕ) (s : ℕ) → write_names_answer n b (length room) ≡ accepted (s ∷ [])
    → (record_room : List ℕ) → records b ≤ length record_room / 8 → ReadsBack n b (take s (write_names_room n b room)) record_room
names_written_read n b room s e record_room fits = rw (text_written n b room s e) (reads n b record_room (wrote n b (length room) s e).whole fits)

pub names_read_written : (n : ℕ) (t room : List ℕ) (m : ℕ) → read_names_answer n t (length room) ≡ accepted (m ∷ [])
    → (text_room : List ℕ) → length t ≤ length text_room → WritesBack n (take (8 * m) (read_names_room n t room)) t text_room
names_read_written n t room m e text_room fits =
    let gs : List Gate = gates_named n t in
    let a = accepted_text n t (length room) m e in
    let text : gate_texts other_name (gates_of (bytes_of (gates_named n t))) ≡ t = ap (gate_texts other_name) (bytes_gates n (gates_named n t) a.0.gates) ∙ a.1 in
    let w = bytes_whole n (gates_named n t) (legible n t (length room) m e).lines a.0 in
    rw (records_read n t room m e) (subst (λ (x : List ℕ). WritesBack n (bytes_of (gates_named n t)) x text_room) text (writes n (bytes_of (gates_named n t)) text_room (length gs) w (rw text fits)))
