-- The cheaper of two cascades: which it is, and what is handed back.
use Rattle.std.specs.Prelude.{ℕ, ◌^◌, ◌≡◌, Bool, cond, not, ◌&&◌, ◌||◌, List, [], ◌∷◌, eqb, ltb, length, Result}
use Rattle.std.specs.Borrow.{Bor}
use Rattle.ranges.specs.Ranges.{first}
use Rattle.card.specs.Card.{Answer, Answer.accepted, Answer.refused, refusing}
use Rattle.card.specs.declared.Refusal.{Refusal}
use Rattle.card.specs.Answers.{answer_as}
use Rattle.gates.specs.declared.Gate.{Gate}
use Rattle.cascades.specs.Cascades.{gates_of, ran}
use Rattle.cascades.specs.Answers.{on_cascade}
use Rattle.boards.specs.Boards.{on_board}
use Rattle.pricing.specs.Prices.{cascade_price}
use Rattle.choice.specs.declared.Choice.{Choice}

-- the document's values: 1 the first, 2 the second
abbrev pub choice_values : Choice → List ℕ
choice_values Choice.First = 1 ∷ []
choice_values Choice.Second = 2 ∷ []

abbrev pub choice_as : Result Choice Refusal → Answer
choice_as r = answer_as choice_values r

-- the first input of n lines on which two lists of gates differ, or 3 ^ n
unfoldable pub first_difference : ℕ → List Gate → List Gate → ℕ
first_difference n gs hs = first (λ p. not (eqb (ran gs p) (ran hs p))) 0 (3 ^ n)

-- at the value v with the fitted set s the second costs less, or the same with fewer gates
unfoldable pub second_wins : ℕ → ℕ → List Gate → List Gate → Bool
second_wins v s gs hs =
    ltb (cascade_price v s hs) (cascade_price v s gs) || eqb (cascade_price v s hs) (cascade_price v s gs) && ltb (length hs) (length gs)

-- 1 10 13, 6 7 of the first, 6 7 of the second, 11
unfoldable pub choose_answer : ℕ → ℕ → ℕ → List ℕ → List ℕ → Answer
choose_answer n v s b c =
    let gs = gates_of b in
    let hs = gates_of c in
    let d = first_difference n gs hs in
    on_board n v s (on_cascade n b (on_cascade n c (refusing (ltb d (3 ^ n)) 11 d (accepted (cond (second_wins v s gs hs) 2 1 ∷ [])))))

-- what is handed back for an answer: that lent cascade itself, or the empty part at the start of the first
pub record Handed (a : Answer) (one two r : Bor (List ℕ)) : Type 0 where
  pub the_first : a ≡ accepted (1 ∷ []) → r ≡ one
  pub the_second : a ≡ accepted (2 ∷ []) → r ≡ two
  pub none : (k p : ℕ) → a ≡ refused k p → (r.ref_ptr ≡ one.ref_ptr) × (r.now ≡ [])
