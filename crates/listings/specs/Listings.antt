-- The printed listing of a cascade, and the call.
use Rattle.std.specs.Prelude.{ℕ, List, [], ◌∷◌, ◌++◌, ltb, length, get_or}
use Rattle.card.specs.Card.{Answer, Answer.accepted, refusing, on_lines, after, laid}
use Rattle.gates.specs.declared.Gate.{Gate}
use Rattle.cascades.specs.Cascades.{gates_of}
use Rattle.cascades.specs.Answers.{on_cascade}
use Rattle.pricing.specs.Prices.{cascade_price}
use Rattle.texts.specs.Texts.{ascii, decimal}
use Rattle.texts.specs.GateTexts.{gate_texts}

-- the names of the operators 1 to 5
unfoldable pub operator_name : ℕ → List ℕ
operator_name o = get_or ([] ∷ ascii "C1" ∷ ascii "C2" ∷ ascii "N" ∷ ascii "D" ∷ ascii "E" ∷ []) o []

-- the head line: n lines, m gates, and the cost
unfoldable pub head_text : ℕ → ℕ → ℕ → List ℕ
head_text n m cost = ascii "lines " ++ decimal n ++ ascii " gates " ++ decimal m ++ ascii " cost " ++ decimal cost ++ ascii "\n"

-- the listing, its cost given
unfoldable pub listing_with : ℕ → ℕ → List Gate → List ℕ
listing_with n cost gs = head_text n (length gs) cost ++ gate_texts operator_name gs

-- the cost is for the global control value 2 and all operators fitted
unfoldable pub listing_text : ℕ → List Gate → List ℕ
listing_text n gs = listing_with n (cascade_price 2 7 gs) gs

-- 1 6 7 5: a room of so many bytes
unfoldable pub listing_answer : ℕ → List ℕ → ℕ → Answer
listing_answer n b room =
    let size = length (listing_text n (gates_of b)) in
    on_lines n (on_cascade n b (refusing (ltb room size) 5 size (accepted (size ∷ []))))

unfoldable pub listing_room : ℕ → List ℕ → List ℕ → List ℕ
listing_room n b room = after (listing_answer n b (length room)) (laid (listing_text n (gates_of b)) room) room
