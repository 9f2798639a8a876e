-- Demand 2. Given the room asked, a table is accepted exactly if it is a permutation of the patterns of its lines. Its cascade is the one that the
-- procedure defines, and computes the table; reversed, each gate replaced by its inverse, it computes the inverse table and gives back every input. What
-- `invert` leaves does so for every cascade. Accepted files read and write back to the same bytes, and a reader hands out the file's gates; so do texts
-- in document 003's names. Assumes nothing.
use Prim.Native.Nat.{ℕ, ◌+◌, ◌*◌, ◌/◌, ◌^◌, ◌≤◌, ◌<◌}
use mathlib.Core.Path.{◌≡◌, sym, ap, ◌∙◌}
use mathlib.Core.Bool.{true}
use mathlib.Core.Logic.{◌↔◌}
use mathlib.Core.List.{List, [], ◌∷◌, ◌++◌, map}
use native.Mathlib.Omega.{arith}
use denote.Ref.{Bor}
use lib.ListN.{length, take, replicate}
use borrow.Author.Tests.{le-ltb}
use Rattle.ranges.specs.Ranges.{span}
use Rattle.card.specs.Card.{Answer.accepted, lines_ok, laid}
use Rattle.card.proofs.Cards.{lines_are, after_accepted}
use Rattle.tables.specs.Permutations.{Permutation}
use Rattle.tables.proofs.Accepts.{accepted_iff}
use Rattle.cascades.specs.Cascades.{records, gate_in, gates_of, bytes_of, ran, undoing, Cascade}
use Rattle.cascades.specs.Answers.{check_answer, invert_answer, invert_room}
use Rattle.cascades.proofs.Cascades.{whole_cascade, gates_count}
use Rattle.cascades.proofs.Checks.{check_whole}
use Rattle.cascades.proofs.Stored.{laid_gates}
use Rattle.cascades.proofs.Undone.{undone, length_undoing, undoing_cascade}
use Rattle.procedure.proofs.InverseTables.{inverse_entry, entry_inverse, inverse_permutation}
use Rattle.digits.proofs.Sizes.{three_pos}
use Rattle.synthesis.specs.Synthesis.{bound, synthesized, synthesize_answer, synthesize_room}
use Rattle.synthesis.proofs.Synthesis.{synthesized_computes, synthesized_inverse, synthesized_cascade, synthesized_bound}
use Rattle.files.specs.Files.{write_answer, write_room, read_answer, read_records, read_note, opening_answer, count, records_of}
use Rattle.files.specs.RoundTrips.{Bytes, GivesBack, GivesFile}
use Rattle.files.proofs.RoundTrips.{read_written, written_read}
use Rattle.std.specs.Prelude.{Ok, None}
use Rattle.readers.specs.declared.Reader.{Reader}
use Rattle.readers.specs.Readers.{as_given, handed, Opened}
use Rattle.readers.proofs.Handed.{reader_gates}
use Rattle.gates.specs.declared.Gate.{Gate}
use Rattle.gates.specs.Gates.{IsGate}
use Rattle.texts.specs.GateTexts.{gate_text}
use Rattle.names.specs.Names.{other_name, read_names_answer, read_names_room, write_names_answer, write_names_room}
use Rattle.names.specs.NameTrips.{ReadsBack, WritesBack}
use Rattle.names.proofs.GoodLines.{one_gate}
use Rattle.names.proofs.NameTrips.{names_written_read, names_read_written}
use Rattle.demands.specs.CardRows.{NoneApplies}
use Rattle.demands.specs.Worth.{TableWorth}
use Rattle.demands.proofs.One.{check_table, synthesize, check_cascade, invert}

-- a table on 1 to 6 lines is accepted exactly if it is a permutation
pub accepted_exactly : (n : ℕ) (t : List ℕ) (room : ℕ) → bound n ≤ room / 8
    → (synthesize_answer n t room ≡ accepted (length (synthesized n t) ∷ [])) ↔ ((lines_ok n ≡ true) × Permutation (3 ^ n) t)
unfolding NoneApplies
accepted_exactly n t room enough = (
  λ e.
      let h = (synthesize n t room).accepts.0 e in
      (accepted_iff n t).0 ((check_table n t).accepts.1 (h.0, (h.1.0, (h.1.1.0, (h.1.1.1.0, tt))))),
  λ w.
      let h = (check_table n t).accepts.0 ((accepted_iff n t).1 w) in
      (synthesize n t room).accepts.1 (h.0, (h.1.0, (h.1.1.0, (h.1.1.1.0, (le-ltb (room / 8) (bound n) enough, tt))))),
)

-- what an accepted table's cascade is worth
pub worth : (n : ℕ) (t : List ℕ) → lines_ok n ≡ true → Permutation (3 ^ n) t → TableWorth n t
worth n t lines perm =
    let six = (lines_are n lines).1 in
    let cascade = synthesized_cascade n t six perm in
    record {
      cascade = cascade;
      computes = synthesized_computes n t six perm;
      inverse =
          record {
            size = (inverse_permutation 3 n t three_pos perm).size;
            back = inverse_entry 3 n t three_pos perm;
            there = entry_inverse 3 n t three_pos perm;
          };
      computes_back = synthesized_inverse n t six perm;
      undone = λ p lp. undone n (synthesized n t) p cascade.gates;
    }

-- and the records left in the room are that cascade
pub in_the_room : (n : ℕ) (t room : List ℕ) → bound n ≤ length room / 8 → lines_ok n ≡ true → Permutation (3 ^ n) t
    → span (gate_in (synthesize_room n t room)) 0 (length (synthesized n t)) ≡ synthesized n t
unfolding synthesize_room
in_the_room n t room enough lines perm =
    let six = (lines_are n lines).1 in
    let e = (accepted_exactly n t (length room) enough).1 (lines, perm) in
    rw (after_accepted (synthesize_answer n t (length room)) (length (synthesized n t) ∷ []) (laid (bytes_of (synthesized n t)) room) room e)
    (laid_gates n (synthesized n t) room (synthesized_cascade n t six perm).gates (omega (arith, synthesized_bound n t six perm)))

-- ---- every cascade walks back

module _ (n : ℕ) (b : List ℕ) (e : check_answer n b ≡ accepted (records b ∷ [])) where
  gates : Cascade n (gates_of b)
  gates = whole_cascade n b (records b) (check_whole n b (records b ∷ []) e)

  -- the reversed inverses give back every input
  pub walks_back : (p : ℕ) → ran (undoing (gates_of b)) (ran (gates_of b) p) ≡ p
  walks_back p = undone n (gates_of b) p gates.gates

  -- and they are what `invert` leaves in the room
  pub undoing_in_the_room : (room : List ℕ) → records b ≤ length room / 8 → span (gate_in (invert_room n b room)) 0 (records b) ≡ undoing (gates_of b)
  unfolding invert_room NoneApplies
  undoing_in_the_room room enough =
      let h = (check_cascade n b).accepts.0 e in
      let a = (invert n b (length room)).accepts.1 (h.0, (h.1.0, (h.1.1.0, (le-ltb (length room / 8) (records b) enough, tt)))) in
      let many : length (undoing (gates_of b)) ≡ records b = length_undoing (gates_of b) ∙ gates_count b in
      let read = laid_gates n (undoing (gates_of b)) room (undoing_cascade n (gates_of b) gates).gates (omega (arith, many)) in
      rw (after_accepted (invert_answer n b (length room)) (records b ∷ []) (laid (bytes_of (undoing (gates_of b))) room) room a) (rw many at read)

-- ---- files

-- reading what was written gives the lines, the records and the note
pub there_and_back : (n : ℕ) (b note room : List ℕ) (s : ℕ) → write_answer n b note (length room) ≡ accepted (s ∷ [])
    → (record_room note_room : List ℕ) → records b ≤ length record_room / 8 → length note ≤ length note_room
    → GivesBack n b note (take s (write_room n b note room)) record_room note_room
there_and_back = read_written

-- writing what was read from an accepted file gives that file
pub back_and_there : (f record_room note_room : List ℕ) (n m k : ℕ) → Bytes f → read_answer f (length record_room) (length note_room) ≡ accepted (n ∷ m ∷ k ∷ [])
    → (room : List ℕ) → length f ≤ length room
    → GivesFile n (take (8 * m) (read_records f record_room note_room)) (take k (read_note f record_room note_room)) f room
back_and_there = written_read

-- a reader opened on an accepted file and asked again and again: exactly the file's gates in order, and then the end for ever
pub reader_walk : (f : Bor (List ℕ)) (r : Reader) (vs : List ℕ) → Opened f r → opening_answer f.now ≡ accepted vs → (k : ℕ)
    → handed r (count f.now + k) ≡ map as_given (gates_of (records_of 8 f.now)) ++ replicate k (Ok None)
reader_walk = reader_gates

-- ---- texts in document 003's names

-- writing a cascade gives a text that is accepted and reads back to the same bytes
pub names_there_and_back : (n : ℕ) (b room : List ℕ) (s : ℕ) → write_names_answer n b (length room) ≡ accepted (s ∷ [])
    → (record_room : List ℕ) → records b ≤ length record_room / 8 → ReadsBack n b (take s (write_names_room n b room)) record_room
names_there_and_back = names_written_read

-- each accepted text is exactly what writing its cascade gives
pub names_back_and_there : (n : ℕ) (t room : List ℕ) (m : ℕ) → read_names_answer n t (length room) ≡ accepted (m ∷ [])
    → (text_room : List ℕ) → length t ≤ length text_room → WritesBack n (take (8 * m) (read_names_room n t room)) t text_room
names_back_and_there = names_read_written

-- two gates with the same line are equal
pub one_line : (n m : ℕ) (g h : Gate) → n ≤ 6 → m ≤ 6 → IsGate n g → IsGate m h → gate_text other_name g ≡ gate_text other_name h → g ≡ h
one_line = one_gate
