-- What the answer of pricing says: accepted, the board is a good one and the bytes are gates; refused, so is every other call behind 1, 10, 13, 6 and
-- 7. Assumes nothing.
use Rattle.std.proofs.Common.{◌≡◌, ◌∙◌, List, [], ◌∷◌, ℕ}
use Rattle.card.specs.Card.{Answer, Answer.accepted, Answer.refused}
use Rattle.card.proofs.Cards.{good_lines}
use Rattle.card.proofs.Fronts.{front_of, front_refused}
use Rattle.gates.specs.Records.{is_record}
use Rattle.cascades.specs.Cascades.{records, gates_of}
use Rattle.cascades.specs.Inner.Checked.{Whole}
use Rattle.cascades.specs.Answers.{on_cascade}
use Rattle.cascades.proofs.Answers.{front_records, behind_accepted}
use Rattle.boards.specs.Boards.{on_board}
use Rattle.boards.proofs.Boards.{GoodBoard, front_board, board_accepted}
use Rattle.pricing.specs.Prices.{cascade_price, price_answer}

module _ (n : ℕ) (b : List ℕ) (v s : ℕ) where
  pub record HasPrice (vs : List ℕ) : Type 0 where
    pub board : GoodBoard n v s
    pub whole : Whole n b (records b)
    pub is : vs ≡ cascade_price v s (gates_of b) ∷ []

  pub price_accepted : (vs : List ℕ) → price_answer n v s b ≡ accepted vs → HasPrice vs
  unfolding price_answer
  price_accepted vs e =
      let board = board_accepted n v s _ vs e in
      let behind = behind_accepted is_record n b _ vs (good_lines n _ board.0.lines ∙ board.1) in
      record { board = board.0; whole = behind.0; is = cc behind.1 }

  pub price_refused : (k p : ℕ) (x : Answer) → price_answer n v s b ≡ refused k p → on_board n v s (on_cascade n b x) ≡ refused k p
  unfolding price_answer
  price_refused k p x e =
      front_refused (λ y. on_board n v s (on_cascade n b y)) (front_of (on_board n v s) (on_cascade n b) (front_board n v s) (front_records is_record n b)) _ k p e x
