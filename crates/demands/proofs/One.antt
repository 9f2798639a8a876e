-- Demand 1. Every call answers every input, by its type and contract. Here: each refusal is given exactly where the card says, in the card's
-- order, with the card's place; and a refused call leaves each lent buffer as it was. Assumes nothing.
use Prim.Native.Nat.{ℕ, ◌+◌, ◌*◌, ◌/◌, ◌^◌}
use mathlib.Core.Path.{◌≡◌, refl, sym}
use mathlib.Core.Bool.{Bool, true, false, cond, not, ◌&&◌}
use lib.Dec.{eqb}
use mathlib.Core.List.{List, [], ◌∷◌}
use lib.ListN.{length}
use Rattle.card.specs.Card.{Answer, Answer.accepted, Answer.refused, refusing, lines_ok, on_lines, after, values}
use Rattle.card.proofs.Cards.{not_accepted}
use Rattle.tables.specs.Tables.{on_table, check_table_answer}
use Rattle.gates.specs.Records.{is_record, gate_at}
use Rattle.cascades.specs.Cascades.{records, gates_of, ran}
use Rattle.cascades.specs.Answers.{on_records, check_answer, run_answer, invert_answer, invert_room}
use Rattle.boards.specs.Boards.{on_board}
use Rattle.pricing.specs.Prices.{cascade_price, price_answer}
use Rattle.tabulating.specs.Tabulating.{tabulate_answer, tabulate_room}
use Rattle.synthesis.specs.Synthesis.{bound, synthesized, synthesize_answer, synthesize_room}
use Rattle.rules.specs.Tidying.{tidied, tidy_answer, tidy_buffer}
use Rattle.choice.specs.Choice.{second_wins, choose_answer}
use Rattle.files.specs.Files.{file_size, lines_in, count, start_of, trailer_at, records_of, on_file, opening_of, opening_answer, write_answer, write_room, read_answer, read_records, read_note}
use Rattle.readers.specs.Readers.{Given, record_stands, as_given, given_as, given_at, place_after, turn_at}
use Rattle.std.specs.Prelude.{Ok, Err, Some, None}
use Rattle.card.specs.declared.Refusal.{Refusal}
use Rattle.listings.specs.Listings.{listing_text, listing_answer, listing_room}
use Rattle.sheets.specs.Sheets.{lines_of, entries_of, file_answer, sheet_text, sheet_answer, sheet_room}
use Rattle.texts.specs.GateTexts.{gate_texts}
use Rattle.names.specs.Names.{other_name, text_lines, on_text, read_names_answer, read_names_room, write_names_answer, write_names_room}
use Rattle.texts.specs.Texts.{joined}
use Rattle.serials.specs.declared.Serial.{Serial}
use Rattle.serials.specs.SerialTexts.{numbers_of, on_bytes, entries_answer, part_answer, end_answer}
use Rattle.serials.specs.Serials.{standing, started, fed_all, ended, ended_table}
use Rattle.serials.proofs.Cuttings.{cut_part, cut_end, refused_table}
use Rattle.demands.specs.CardRows.{Row, decided, Exactly, Kept}
use Rattle.demands.specs.Refusals.{row1, row2, row3, row4, row5, row6, row6_lines, row7, row7_next, row8, row9, row9_note, row10, row12, row13, row14_byte, row14_end, choice_rows, opening_rows}
use Rattle.demands.proofs.Decided.{first_refuses, refused_first, none_accepts, accepted_none}

exactly : (rows : List Row) (vs : List ℕ) → Exactly (decided rows (accepted vs)) rows vs
exactly rows vs =
    record {
      refusals = λ k p. (refused_first vs rows k p, first_refuses vs rows k p);
      accepts = (accepted_none vs rows, none_accepts vs rows);
    }

kept : (answer : Answer) (new old : List ℕ) → Kept answer (after answer new old) old
unfolding Kept after
kept answer new old k p e = rw e

-- ---- the calls, with their rows in the card's order

pub check_table : (n : ℕ) (t : List ℕ) → Exactly (check_table_answer n t) (row1 n ∷ row2 n (length t) ∷ row3 n t ∷ row4 t ∷ []) []
unfolding check_table_answer on_lines on_table decided
check_table n t = exactly (row1 n ∷ row2 n (length t) ∷ row3 n t ∷ row4 t ∷ []) []

pub synthesize : (n : ℕ) (t : List ℕ) (room : ℕ)
    → Exactly (synthesize_answer n t room) (row1 n ∷ row2 n (length t) ∷ row3 n t ∷ row4 t ∷ row5 (room / 8) (bound n) ∷ []) (length (synthesized n t) ∷ [])
unfolding synthesize_answer on_lines on_table decided
synthesize n t room = exactly (row1 n ∷ row2 n (length t) ∷ row3 n t ∷ row4 t ∷ row5 (room / 8) (bound n) ∷ []) (length (synthesized n t) ∷ [])

pub synthesize_kept : (n : ℕ) (t room : List ℕ) → Kept (synthesize_answer n t (length room)) (synthesize_room n t room) room
unfolding synthesize_room
synthesize_kept n t room = kept (synthesize_answer n t (length room)) _ room

pub check_cascade : (n : ℕ) (b : List ℕ) → Exactly (check_answer n b) (row1 n ∷ row6 b ∷ row7 n b ∷ []) (records b ∷ [])
unfolding check_answer on_lines on_records decided
check_cascade n b = exactly (row1 n ∷ row6 b ∷ row7 n b ∷ []) (records b ∷ [])

pub run : (n : ℕ) (b : List ℕ) (p : ℕ) → Exactly (run_answer n b p) (row1 n ∷ row6 b ∷ row7 n b ∷ row8 n p ∷ []) (ran (gates_of b) p ∷ [])
unfolding run_answer on_lines on_records decided
run n b p = exactly (row1 n ∷ row6 b ∷ row7 n b ∷ row8 n p ∷ []) (ran (gates_of b) p ∷ [])

pub tabulate : (n : ℕ) (b : List ℕ) (room : ℕ) → Exactly (tabulate_answer n b room) (row1 n ∷ row6 b ∷ row7 n b ∷ row5 room (3 ^ n) ∷ []) (3 ^ n ∷ [])
unfolding tabulate_answer on_lines on_records decided
tabulate n b room = exactly (row1 n ∷ row6 b ∷ row7 n b ∷ row5 room (3 ^ n) ∷ []) (3 ^ n ∷ [])

pub tabulate_kept : (n : ℕ) (b room : List ℕ) → Kept (tabulate_answer n b (length room)) (tabulate_room n b room) room
unfolding tabulate_room
tabulate_kept n b room = kept (tabulate_answer n b (length room)) _ room

pub invert : (n : ℕ) (b : List ℕ) (room : ℕ) → Exactly (invert_answer n b room) (row1 n ∷ row6 b ∷ row7 n b ∷ row5 (room / 8) (records b) ∷ []) (records b ∷ [])
unfolding invert_answer on_lines on_records decided
invert n b room = exactly (row1 n ∷ row6 b ∷ row7 n b ∷ row5 (room / 8) (records b) ∷ []) (records b ∷ [])

pub invert_kept : (n : ℕ) (b room : List ℕ) → Kept (invert_answer n b (length room)) (invert_room n b room) room
unfolding invert_room
invert_kept n b room = kept (invert_answer n b (length room)) _ room

pub price : (n v s : ℕ) (b : List ℕ)
    → Exactly (price_answer n v s b) (row1 n ∷ row10 v ∷ row13 s ∷ row6 b ∷ row7 n b ∷ []) (cascade_price v s (gates_of b) ∷ [])
unfolding price_answer on_board on_lines on_records decided
price n v s b = exactly (row1 n ∷ row10 v ∷ row13 s ∷ row6 b ∷ row7 n b ∷ []) (cascade_price v s (gates_of b) ∷ [])

pub tidy : (n : ℕ) (b : List ℕ)
    → Exactly (tidy_answer n b) (row1 n ∷ row6 b ∷ row7 n b ∷ []) (length (tidied (gates_of b)).left ∷ (tidied (gates_of b)).steps ∷ [])
unfolding tidy_answer on_lines on_records decided
tidy n b = exactly (row1 n ∷ row6 b ∷ row7 n b ∷ []) (length (tidied (gates_of b)).left ∷ (tidied (gates_of b)).steps ∷ [])

pub tidy_kept : (n : ℕ) (b : List ℕ) → Kept (tidy_answer n b) (tidy_buffer n b) b
unfolding tidy_buffer
tidy_kept n b = kept (tidy_answer n b) _ b

-- 6 and 7 of the first, then of the second. `cheaper` hands back what this answer says (`Handed`)
pub choose : (n v s : ℕ) (b c : List ℕ)
    → Exactly (choose_answer n v s b c) (choice_rows n v s b c)
    (cond (second_wins v s (gates_of b) (gates_of c)) 2 1 ∷ [])
unfolding choose_answer on_board on_lines on_records decided
choose n v s b c =
    exactly (choice_rows n v s b c)
    (cond (second_wins v s (gates_of b) (gates_of c)) 2 1 ∷ [])

pub write_file : (n : ℕ) (b note : List ℕ) (room : ℕ)
    → Exactly (write_answer n b note room) (row1 n ∷ row6 b ∷ row7 n b ∷ row9_note note ∷ row5 room (file_size 8 note b) ∷ []) (file_size 8 note b ∷ [])
unfolding write_answer on_lines on_records decided
write_file n b note room = exactly (row1 n ∷ row6 b ∷ row7 n b ∷ row9_note note ∷ row5 room (file_size 8 note b) ∷ []) (file_size 8 note b ∷ [])

pub write_file_kept : (n : ℕ) (b note room : List ℕ) → Kept (write_answer n b note (length room)) (write_room n b note room) room
unfolding write_room
write_file_kept n b note room = kept (write_answer n b note (length room)) _ room

pub read_file : (f : List ℕ) (room note_room : ℕ)
    → Exactly (read_answer f room note_room)
    (row9 f ∷ row1 (lines_in f) ∷ row6 (records_of 8 f) ∷ row7 (lines_in f) (records_of 8 f) ∷ row5 (room / 8) (count f) ∷ row5 note_room (start_of 8 f) ∷ [])
    (lines_in f ∷ count f ∷ start_of 8 f ∷ [])
unfolding read_answer on_file on_lines on_records decided
read_file f room note_room =
    exactly (row9 f ∷ row1 (lines_in f) ∷ row6 (records_of 8 f) ∷ row7 (lines_in f) (records_of 8 f) ∷ row5 (room / 8) (count f) ∷ row5 note_room (start_of 8 f) ∷ [])
    (lines_in f ∷ count f ∷ start_of 8 f ∷ [])

pub read_file_kept : (f room note_room : List ℕ) → Kept (read_answer f (length room) (length note_room)) (read_records f room note_room) room
unfolding read_records
read_file_kept f room note_room = kept (read_answer f (length room) (length note_room)) _ room

pub read_note_kept : (f room note_room : List ℕ) → Kept (read_answer f (length room) (length note_room)) (read_note f room note_room) note_room
unfolding read_note
read_note_kept f room note_room = kept (read_answer f (length room) (length note_room)) _ note_room

pub opening : (f : List ℕ)
    → Exactly (opening_answer f) (opening_rows f) (lines_in f ∷ start_of 8 f ∷ trailer_at 8 f ∷ [])
unfolding opening_of on_file on_lines on_records decided
opening f = exactly (opening_rows f) (lines_in f ∷ start_of 8 f ∷ trailer_at 8 f ∷ [])

-- the values are the gate's where a record stands, and else the end's
pub next : (n : ℕ) (f : List ℕ) (at end : ℕ)
    → Exactly (given_as (given_at f n at end)) (row1 n ∷ row7_next n f at end ∷ []) (cond (record_stands f at end) (values (given_as (as_given (gate_at f at)))) (0 ∷ []))
unfolding given_at decided refusing
next n f at end = go (lines_ok n) (record_stands f at end) (is_record n f at)
  where
    go : (lines stands gate : Bool)
        → Exactly (given_as (cond lines (cond stands (cond gate (as_given (gate_at f at)) (Err (Refusal.NoGate at))) (Ok None)) (Err Refusal.Lines)))
        (record { applies = not lines; number = 1; place = 0 } ∷ record { applies = stands && not gate; number = 7; place = at } ∷ [])
        (cond stands (values (given_as (as_given (gate_at f at)))) (0 ∷ []))
    go false true gate = exactly _ _
    go false false gate = exactly _ _
    go true true true = exactly _ _
    go true true false = exactly _ _
    go true false gate = exactly _ _

-- a refused turn leaves the reader at its place
pub next_kept : (n : ℕ) (f : List ℕ) (at end k p : ℕ) → given_as (turn_at f n at end).given ≡ refused k p → (turn_at f n at end).at ≡ at
unfolding turn_at place_after
next_kept n f at end k p e = go (given_at f n at end) e
  where
    go : (given : Given) → given_as given ≡ refused k p → place_after given at ≡ at
    go (Ok (Some g)) e = not_accepted k p _ (sym e)
    go (Ok None) e = refl
    go (Err d) e = refl

-- after the end it stays there
pub next_end : (n : ℕ) (f : List ℕ) (at end : ℕ) → (turn_at f n at end).given ≡ Ok None → (turn_at f n at end).at ≡ at
unfolding turn_at place_after
next_end n f at end e = rw e

pub listing : (n : ℕ) (b : List ℕ) (room : ℕ)
    → Exactly (listing_answer n b room) (row1 n ∷ row6 b ∷ row7 n b ∷ row5 room (length (listing_text n (gates_of b))) ∷ []) (length (listing_text n (gates_of b)) ∷ [])
unfolding listing_answer on_lines on_records decided
listing n b room = exactly (row1 n ∷ row6 b ∷ row7 n b ∷ row5 room (length (listing_text n (gates_of b))) ∷ []) (length (listing_text n (gates_of b)) ∷ [])

pub listing_kept : (n : ℕ) (b room : List ℕ) → Kept (listing_answer n b (length room)) (listing_room n b room) room
unfolding listing_room
listing_kept n b room = kept (listing_answer n b (length room)) _ room

-- the program's refusal line is that of these rows; the call itself refuses a room too small for the text, and nothing else
pub table_file : (f : List ℕ)
    → Exactly (file_answer f) (row1 (lines_of f) ∷ record { applies = not (eqb (length f) (1 + 2 * 3 ^ lines_of f)); number = 2; place = 0 } ∷ row2 (lines_of f) (length (entries_of f)) ∷ row3 (lines_of f) (entries_of f) ∷ row4 (entries_of f) ∷ []) []
unfolding file_answer on_lines on_table decided
table_file f = exactly (row1 (lines_of f) ∷ record { applies = not (eqb (length f) (1 + 2 * 3 ^ lines_of f)); number = 2; place = 0 } ∷ row2 (lines_of f) (length (entries_of f)) ∷ row3 (lines_of f) (entries_of f) ∷ row4 (entries_of f) ∷ []) []

pub sheet : (f : List ℕ) (room : ℕ) → Exactly (sheet_answer f room) (row5 room (length (sheet_text f)) ∷ []) (length (sheet_text f) ∷ [])
unfolding sheet_answer decided
sheet f room = exactly (row5 room (length (sheet_text f)) ∷ []) (length (sheet_text f) ∷ [])

pub sheet_kept : (f room : List ℕ) → Kept (sheet_answer f (length room)) (sheet_room f room) room
unfolding sheet_room
sheet_kept f room = kept (sheet_answer f (length room)) _ room

-- ---- document 02

pub read_names : (n : ℕ) (t : List ℕ) (room : ℕ)
    → Exactly (read_names_answer n t room) (row1 n ∷ row12 n t ∷ row6_lines t ∷ row5 (room / 8) (length (text_lines t)) ∷ []) (length (text_lines t) ∷ [])
unfolding read_names_answer on_lines on_text decided
read_names n t room = exactly (row1 n ∷ row12 n t ∷ row6_lines t ∷ row5 (room / 8) (length (text_lines t)) ∷ []) (length (text_lines t) ∷ [])

pub read_names_kept : (n : ℕ) (t room : List ℕ) → Kept (read_names_answer n t (length room)) (read_names_room n t room) room
unfolding read_names_room
read_names_kept n t room = kept (read_names_answer n t (length room)) _ room

pub write_names : (n : ℕ) (b : List ℕ) (room : ℕ)
    → Exactly (write_names_answer n b room) (row1 n ∷ row6 b ∷ row7 n b ∷ row5 room (length (gate_texts other_name (gates_of b))) ∷ []) (length (gate_texts other_name (gates_of b)) ∷ [])
unfolding write_names_answer on_lines on_records decided
write_names n b room = exactly (row1 n ∷ row6 b ∷ row7 n b ∷ row5 room (length (gate_texts other_name (gates_of b))) ∷ []) (length (gate_texts other_name (gates_of b)) ∷ [])

pub write_names_kept : (n : ℕ) (b room : List ℕ) → Kept (write_names_answer n b (length room)) (write_names_room n b room) room
unfolding write_names_room
write_names_kept n b room = kept (write_names_answer n b (length room)) _ room

-- ---- the serial lead: the rows are those of the text so far, however it was cut; no part at all is the start

pub serial_part : (n : ℕ) (parts : List (List ℕ)) → Exactly (standing (fed_all (started n) parts)) (row1 n ∷ row14_byte (joined parts) ∷ []) (0 ∷ [])
serial_part n parts = rw (cut_part n parts) (unfold part_answer on_lines on_bytes decided in exactly (row1 n ∷ row14_byte (joined parts) ∷ []) (0 ∷ []))

abbrev end_rows : ℕ → List ℕ → ℕ → List Row
end_rows n t room =
    row1 n ∷ row14_byte t ∷ row14_end t ∷ row2 n (length (numbers_of t)) ∷ row3 n (numbers_of t) ∷ row4 (numbers_of t) ∷ row5 room (3 ^ n) ∷ []

pub serial_end : (n : ℕ) (parts : List (List ℕ)) (room : ℕ)
    → Exactly (standing (ended (fed_all (started n) parts) room)) (end_rows n (joined parts) room) (3 ^ n ∷ [])
serial_end n parts room =
    rw (cut_end n parts room) (unfold end_answer on_lines on_bytes entries_answer on_table decided in exactly (end_rows n (joined parts) room) (3 ^ n ∷ []))

-- of any reader, made up or not
pub serial_end_kept : (r : Serial) (table : List ℕ) → Kept (standing (ended r (length table))) (ended_table r table) table
unfolding Kept
serial_end_kept r table = refused_table r table
