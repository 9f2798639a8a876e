-- The cascade file: a note, the records, and a trailer that points back. What holds of every edition is said over the trailer's size z and the
-- edition e; the calls write and read edition 1, with a trailer of 8 bytes.
use Rattle.std.specs.Prelude.{ℕ, ◌+◌, ◌-◌, ◌*◌, ◌/◌, Bool, not, ◌&&◌, List, [], ◌∷◌, ◌++◌, eqb, leb, ltb, length, get_or, take, drop, Result}
use Rattle.ranges.specs.Ranges.{span}
use Rattle.digits.specs.Digits.{digit, pack}
use Rattle.card.specs.Card.{Answer, Answer.accepted, refusing, on_lines, after, laid}
use Rattle.card.specs.declared.Refusal.{Refusal}
use Rattle.card.specs.Answers.{answer_as}
use Rattle.cascades.specs.Cascades.{records}
use Rattle.cascades.specs.Answers.{on_cascade}
use Rattle.files.specs.declared.ReadBack.{ReadBack}
use Rattle.files.specs.declared.Extent.{Extent}

-- ---- the document's values for what was read, and for where the gates stand

abbrev pub read_values : ReadBack → List ℕ
read_values r = r.lines ∷ r.gates ∷ r.note ∷ []

abbrev pub read_as : Result ReadBack Refusal → Answer
read_as r = answer_as read_values r

abbrev pub extent_values : Extent → List ℕ
extent_values x = x.lines ∷ x.at ∷ x.end ∷ []

abbrev pub opening_as : Result Extent Refusal → Answer
opening_as r = answer_as extent_values r

-- ---- numbers in bytes, low byte first

-- the k bytes of x, and the number that the k bytes from place at on write down
unfoldable pub little_endian : ℕ → ℕ → List ℕ
little_endian k x = span (λ i. digit 256 i x) 0 k

unfoldable pub number_at : ℕ → List ℕ → ℕ → ℕ
number_at k f at = pack 256 (λ i. get_or f (at + i) 0) k

-- ---- writing

-- the last eight bytes of a file of edition e with m records on n lines: the distance from the trailer's first byte back to the first record,
-- the count, the lines, the edition
unfoldable pub trailer : ℕ → ℕ → ℕ → List ℕ
trailer e n m = little_endian 4 (8 * m) ++ little_endian 2 m ++ (n ∷ e ∷ [])

-- the file of a note and a cascade on n lines
unfoldable pub file_of : ℕ → List ℕ → List ℕ → List ℕ
file_of n note b = note ++ b ++ trailer 1 n (records b)

-- its size with a trailer of z bytes
unfoldable pub file_size : ℕ → List ℕ → List ℕ → ℕ
file_size z note b = length note + length b + z

-- 1 6 7, 9 for the note, 5: a room of so many bytes
unfoldable pub write_answer : ℕ → List ℕ → List ℕ → ℕ → Answer
write_answer n b note room =
    on_lines n (on_cascade n b (refusing (ltb 1024 (length note)) 9 0 (refusing (ltb room (file_size 8 note b)) 5 (file_size 8 note b) (accepted (file_size 8 note b ∷ [])))))

unfoldable pub write_room : ℕ → List ℕ → List ℕ → List ℕ → List ℕ
write_room n b note room = after (write_answer n b note (length room)) (laid (file_of n note b) room) room

-- ---- reading

-- where the last eight bytes begin, and what they say
unfoldable pub tail_at : List ℕ → ℕ
tail_at f = length f - 8

unfoldable pub distance : List ℕ → ℕ
distance f = number_at 4 f (tail_at f)

unfoldable pub count : List ℕ → ℕ
count f = number_at 2 f (tail_at f + 4)

unfoldable pub lines_in : List ℕ → ℕ
lines_in f = get_or f (tail_at f + 6) 0

unfoldable pub edition : List ℕ → ℕ
edition f = get_or f (tail_at f + 7) 0

-- where a trailer of z bytes begins
unfoldable pub trailer_at : ℕ → List ℕ → ℕ
trailer_at z f = length f - z

-- where the first record stands, which is also how long the note is
unfoldable pub start_of : ℕ → List ℕ → ℕ
start_of z f = trailer_at z f - distance f

unfoldable pub note_of : ℕ → List ℕ → List ℕ
note_of z f = take (start_of z f) f

unfoldable pub records_of : ℕ → List ℕ → List ℕ
records_of z f = take (distance f) (drop (start_of z f) f)

-- z bytes or more, edition e, the distance 8 times the count and not beyond the file's start, a note of at most 1,024 bytes
unfoldable pub frame_ok : ℕ → ℕ → List ℕ → Bool
frame_ok z e f =
    leb z (length f)
    && eqb (edition f) e
    && eqb (distance f) (8 * count f)
    && leb (distance f) (trailer_at z f)
    && leb (start_of z f) 1024

-- 9 1 6 7 of the file f, and else the answer x
unfoldable pub on_file : ℕ → ℕ → List ℕ → Answer → Answer
on_file z e f x = refusing (not (frame_ok z e f)) 9 0 (on_lines (lines_in f) (on_cascade (lines_in f) (records_of z f) x))

-- 9 1 6 7, and else the lines, the place of the first record and the offset where the records end
unfoldable pub opening_of : ℕ → ℕ → List ℕ → Answer
opening_of z e f = on_file z e f (accepted (lines_in f ∷ start_of z f ∷ trailer_at z f ∷ []))

abbrev pub opening_answer : List ℕ → Answer
opening_answer f = opening_of 8 1 f

-- 9 1 6 7, 5 for the records' room, 5 for the note's: rooms of so many bytes
unfoldable pub read_answer : List ℕ → ℕ → ℕ → Answer
read_answer f room note_room =
    on_file 8 1 f
    (refusing (ltb (room / 8) (count f)) 5 (count f)
    (refusing (ltb note_room (start_of 8 f)) 5 (start_of 8 f) (accepted (lines_in f ∷ count f ∷ start_of 8 f ∷ []))))

unfoldable pub read_records : List ℕ → List ℕ → List ℕ → List ℕ
read_records f room note_room = after (read_answer f (length room) (length note_room)) (laid (records_of 8 f) room) room

unfoldable pub read_note : List ℕ → List ℕ → List ℕ → List ℕ
read_note f room note_room = after (read_answer f (length room) (length note_room)) (laid (note_of 8 f) note_room) note_room
