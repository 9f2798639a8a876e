-- Gate lists in document 003's names for the operators: the lines of a text, which of them are good, and the two calls.
use Rattle.std.specs.Prelude.{ℕ, ◌/◌, ◌%◌, Bool, cond, not, ◌&&◌, List, [], ◌∷◌, map, eqb, ltb, length, get_or}
use Rattle.ranges.specs.Ranges.{every, some, first}
use Rattle.card.specs.Card.{Answer, Answer.accepted, refusing, on_lines, after, laid}
use Rattle.gates.specs.declared.Gate.{Gate}
use Rattle.gates.specs.Records.{is_record, record_of}
use Rattle.cascades.specs.Cascades.{gates_of, bytes_of}
use Rattle.cascades.specs.Answers.{on_cascade}
use Rattle.texts.specs.Texts.{ascii}
use Rattle.texts.specs.GateTexts.{gate_text, gate_texts}

-- document 003's names of the operators 1 to 5
unfoldable pub other_name : ℕ → List ℕ
other_name o = get_or ([] ∷ ascii "+1" ∷ ascii "+2" ∷ ascii "02" ∷ ascii "12" ∷ ascii "01" ∷ []) o []

-- ---- the lines of a text: each up to its newline, which is 10 and belongs to it, and what follows the last one

-- a byte before the first of some lines
unfoldable pub before_first : ℕ → List (List ℕ) → List (List ℕ)
before_first c [] = (c ∷ []) ∷ []
before_first c (l ∷ ls) = (c ∷ l) ∷ ls

unfoldable pub text_lines : List ℕ → List (List ℕ)
text_lines [] = []
text_lines (c ∷ t) = cond (eqb c 10) ((c ∷ []) ∷ text_lines t) (before_first c (text_lines t))

-- ---- good lines: nothing is read off a line, all gates are tried

-- the gates by number: 8 * 8 * 4^6 of them, which is 262,144; those that are none on n lines are passed over below
unfoldable pub numbered : ℕ → Gate
numbered i = record { operator = i % 8; target = i / 8 % 8; controls = i / 64 }

unfoldable pub same_text : List ℕ → List ℕ → Bool
same_text a b = eqb (length a) (length b) && every (λ k. eqb (get_or a k 0) (get_or b k 0)) 0 (length a)

-- number i is a gate on n lines, and l is its line
unfoldable pub spells : ℕ → List ℕ → ℕ → Bool
spells n l i = is_record n (record_of (numbered i)) 0 && same_text (gate_text other_name (numbered i)) l

-- l is the line of a gate on n lines, and that gate; `one_gate` shows that there is no other
unfoldable pub good : ℕ → List ℕ → Bool
good n l = some (spells n l) 0 262144

unfoldable pub gate_named : ℕ → List ℕ → Gate
gate_named n l = numbered (first (spells n l) 0 262144)

-- the gates of a text
unfoldable pub gates_named : ℕ → List ℕ → List Gate
gates_named n t = map (gate_named n) (text_lines t)

-- ---- the calls

-- the first of some lines that is not good, or their number
unfoldable pub first_wrong : ℕ → List (List ℕ) → ℕ
first_wrong n ls = first (λ i. not (good n (get_or ls i []))) 0 (length ls)

-- 12 of a text, and else the answer x
unfoldable pub on_text : ℕ → List ℕ → Answer → Answer
on_text n t x = let wrong = first_wrong n (text_lines t) in refusing (ltb wrong (length (text_lines t))) 12 wrong x

-- 1 12 6 5: a room of so many bytes
unfoldable pub read_names_answer : ℕ → List ℕ → ℕ → Answer
read_names_answer n t room =
    let m = length (text_lines t) in
    on_lines n (on_text n t (refusing (ltb 8000 m) 6 0 (refusing (ltb (room / 8) m) 5 m (accepted (m ∷ [])))))

unfoldable pub read_names_room : ℕ → List ℕ → List ℕ → List ℕ
read_names_room n t room = after (read_names_answer n t (length room)) (laid (bytes_of (gates_named n t)) room) room

-- 1 6 7 5: a room of so many bytes
unfoldable pub write_names_answer : ℕ → List ℕ → ℕ → Answer
write_names_answer n b room =
    let size = length (gate_texts other_name (gates_of b)) in
    on_lines n (on_cascade n b (refusing (ltb room size) 5 size (accepted (size ∷ []))))

unfoldable pub write_names_room : ℕ → List ℕ → List ℕ → List ℕ
write_names_room n b room = after (write_names_answer n b (length room)) (laid (gate_texts other_name (gates_of b)) room) room
