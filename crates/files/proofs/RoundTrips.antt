-- The two round trips of cascade files. `read_written`: reading what was written gives the lines, the records and the note. `written_read`: writing
-- what was read from an accepted file gives that file, byte for byte. They rest on the laws of frames. Assumes nothing.
use Rattle.std.proofs.Common.{◌≡◌, sym, ◌∙◌, List, [], ◌∷◌, ℕ, ◌*◌, ◌/◌, ◌≤◌, arith, length, take}
use Rattle.card.specs.Card.{Answer.accepted, laid}
use Rattle.card.proofs.Cards.{after_accepted, laid_front}
use Rattle.cascades.specs.Cascades.{records}
use Rattle.cascades.specs.Inner.Checked.{Whole}
use Rattle.files.specs.Files.{file_of, file_size, write_answer, write_room, count, lines_in, start_of, note_of, records_of, read_answer, read_records, read_note}
use Rattle.files.specs.RoundTrips.{Bytes, GivesBack, GivesFile}
use Rattle.files.proofs.Frames.{Right, file_with, file_with_lem, length_file, with_lines, with_count, with_start, with_note, with_records, with_right, file_again, length_note, length_records, records_count, parts_end, trailer_fits}
use Rattle.files.proofs.Transfers.{reads_into, read_accepted, writes_into, write_accepted}

-- the bytes that were written
written : (n : ℕ) (b note room : List ℕ) (vs : List ℕ) → write_answer n b note (length room) ≡ accepted vs → take (file_size 8 note b) (write_room n b note room) ≡ file_of n note b
unfolding write_room
written n b note room vs e = rw (after_accepted _ vs (laid (file_of n note b) room) room e) (laid_front (file_size 8 note b) (file_of n note b) room (length_file n note b))

read_file_of : (n : ℕ) (b note room note_room : List ℕ) → Whole n b (records b) → length note ≤ 1024 → records b ≤ length room / 8 → length note ≤ length note_room
    → GivesBack n b note (file_of n note b) room note_room
unfolding read_records read_note
read_file_of n b note room note_room w short fits fits' =
    let r = with_right [] 1 n note b w short in
    let lines = with_lines [] 1 n note b in
    let many = with_count [] 1 n note b w in
    let start = with_start [] 1 n note b w in
    let bytes = with_records [] 1 n note b w in
    let whole : Whole (lines_in (file_with [] 1 n note b)) (records_of 8 (file_with [] 1 n note b)) (count (file_with [] 1 n note b)) = rw (lines, bytes, many) w in
    let answer = read_accepted (file_with [] 1 n note b) room note_room r whole (rw many fits) (rw start fits') in
    rw (file_with_lem n note b)
    (record {
      answer = answer ∙ rw (lines, many, start);
      the_records = after_accepted _ _ (laid (records_of 8 (file_with [] 1 n note b)) room) room answer ∙ rw bytes;
      the_note = after_accepted _ _ (laid (note_of 8 (file_with [] 1 n note b)) note_room) note_room answer ∙ rw (with_note [] 1 n note b w);
    })

-- reading what was written
pub read_written : (n : ℕ) (b note room : List ℕ) (s : ℕ) → write_answer n b note (length room) ≡ accepted (s ∷ [])
    → (record_room note_room : List ℕ) → records b ≤ length record_room / 8 → length note ≤ length note_room
    → GivesBack n b note (take s (write_room n b note room)) record_room note_room
read_written n b note room s e record_room note_room fits fits' =
    let w = writes_into n b note (length room) (s ∷ []) e in
    let size : s ≡ file_size 8 note b = cc w.is in
    rw (size, written n b note room (s ∷ []) e) (read_file_of n b note record_room note_room w.whole w.short fits fits')

write_file_of : (f room : List ℕ) → Bytes f → Right 8 1 f → Whole (lines_in f) (records_of 8 f) (count f) → length f ≤ length room → GivesFile (lines_in f) (records_of 8 f) (note_of 8 f) f room
unfolding write_room file_size
write_file_of f room bytes r w fits =
    let size : file_size 8 (note_of 8 f) (records_of 8 f) ≡ length f = omega (arith, length_note 8 1 f r, length_records 8 1 f r, parts_end 8 1 f r, trailer_fits 8 1 f r) in
    let answer = write_accepted (lines_in f) (records_of 8 f) (note_of 8 f) (length room) (rw (records_count 8 1 f r) w) (rw (length_note 8 1 f r) r.short_note) (rw size fits) in
    record {
      answer = answer ∙ rw size;
      the_file = after_accepted _ _ (laid (file_of (lines_in f) (note_of 8 f) (records_of 8 f)) room) room answer ∙ rw (file_again f r bytes);
    }

-- writing what was read
pub written_read : (f record_room note_room : List ℕ) (n m k : ℕ) → Bytes f → read_answer f (length record_room) (length note_room) ≡ accepted (n ∷ m ∷ k ∷ [])
    → (room : List ℕ) → length f ≤ length room
    → GivesFile n (take (8 * m) (read_records f record_room note_room)) (take k (read_note f record_room note_room)) f room
unfolding read_records read_note
written_read f record_room note_room n m k bytes e room fits =
    let g = reads_into f record_room note_room (n ∷ m ∷ k ∷ []) e in
    let r = g.opens.framed_right in
    let en : n ≡ lines_in f = cc g.is in
    let em : m ≡ count f = cc g.is in
    let ek : k ≡ start_of 8 f = cc g.is in
    let long : length (records_of 8 f) ≡ 8 * m = length_records 8 1 f r ∙ r.eight ∙ rw em in
    rw (after_accepted _ _ (laid (records_of 8 f) record_room) record_room e, after_accepted _ _ (laid (note_of 8 f) note_room) note_room e, laid_front (8 * m) (records_of 8 f) record_room long, laid_front k (note_of 8 f) note_room (length_note 8 1 f r ∙ sym ek), en)
    (write_file_of f room bytes r g.opens.whole fits)
