-- What `tabulate` answers, with the refusals in the card's order, and what it leaves in a lent room.
use Rattle.std.specs.Prelude.{ℕ, ◌^◌, List, [], ◌∷◌, ltb, length}
use Rattle.card.specs.Card.{Answer, Answer.accepted, refusing, on_lines, after, laid}
use Rattle.cascades.specs.Cascades.{gates_of, table_of}
use Rattle.cascades.specs.Answers.{on_cascade}

-- 1 6 7 5: a room of so many entries
unfoldable pub tabulate_answer : ℕ → List ℕ → ℕ → Answer
tabulate_answer n b room = on_lines n (on_cascade n b (refusing (ltb room (3 ^ n)) 5 (3 ^ n) (accepted (3 ^ n ∷ []))))

unfoldable pub tabulate_room : ℕ → List ℕ → List ℕ → List ℕ
tabulate_room n b room = after (tabulate_answer n b (length room)) (laid (table_of n (gates_of b)) room) room
