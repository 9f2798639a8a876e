-- What the calls on a cascade answer, with the refusals in the card's order, and what they leave in a lent room.
use Rattle.std.specs.Prelude.{ℕ, ◌*◌, ◌/◌, ◌%◌, ◌^◌, Bool, not, ◌&&◌, List, [], ◌∷◌, eqb, leb, ltb, length}
use Rattle.ranges.specs.Ranges.{first}
use Rattle.card.specs.Card.{Answer, Answer.accepted, refusing, on_lines, after, laid}
use Rattle.gates.specs.Records.{is_record}
use Rattle.cascades.specs.Cascades.{records, gates_of, bytes_of, ran, undoing}

-- ---- refusals 6 and 7 of a given cascade

-- whole records, and at most 8,000 of them
unfoldable pub length_ok : ℕ → Bool
length_ok l = eqb (l % 8) 0 && leb l (8 * 8000)

-- `good n b at` says what a record of a gate on n lines is: the 8 bytes of b from place at on
module _ (good : ℕ → List ℕ → ℕ → Bool) where
  -- record i is none
  unfoldable pub bad_record : ℕ → List ℕ → ℕ → Bool
  bad_record n b i = not (good n b (8 * i))

  -- the first such record, or the number of records
  unfoldable pub first_bad : ℕ → List ℕ → ℕ
  first_bad n b = first (bad_record n b) 0 (records b)

  -- 6 and 7 of the bytes b, and else the answer x
  unfoldable pub on_records : ℕ → List ℕ → Answer → Answer
  on_records n b x = refusing (not (length_ok (length b))) 6 0 (refusing (ltb (first_bad n b) (records b)) 7 (first_bad n b) x)

-- the same of a cascade of ternary gates
abbrev pub on_cascade : ℕ → List ℕ → Answer → Answer
on_cascade n b x = on_records is_record n b x

-- ---- the calls

-- 1 6 7
unfoldable pub check_answer : ℕ → List ℕ → Answer
check_answer n b = on_lines n (on_cascade n b (accepted (records b ∷ [])))

-- 1 6 7 8
unfoldable pub run_answer : ℕ → List ℕ → ℕ → Answer
run_answer n b p = on_lines n (on_cascade n b (refusing (leb (3 ^ n) p) 8 0 (accepted (ran (gates_of b) p ∷ []))))

-- 1 6 7 5: a room of so many bytes
unfoldable pub invert_answer : ℕ → List ℕ → ℕ → Answer
invert_answer n b room = on_lines n (on_cascade n b (refusing (ltb (room / 8) (records b)) 5 (records b) (accepted (records b ∷ []))))

unfoldable pub invert_room : ℕ → List ℕ → List ℕ → List ℕ
invert_room n b room = after (invert_answer n b (length room)) (laid (bytes_of (undoing (gates_of b))) room) room
