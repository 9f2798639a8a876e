-- Boards: a set is its members' numbers added, and what 1, 10 and 13 have let through is a good board. Assumes nothing.
use Rattle.std.proofs.Common.{◌≡◌, refl, ◌∙◌, Bool, true, false, cond, not, List, [], ◌∷◌, map, ℕ, ◌+◌, ◌≤◌, eqb, ltb, le-ltb, ltb-false}
use Rattle.std.proofs.lemmas.Bool.{not-false}
use Rattle.digits.specs.Digits.{digit}
use Rattle.card.specs.Card.{Answer, Answer.accepted, refusing, lines_ok, on_lines}
use Rattle.card.proofs.Cards.{refusing_no, refusing_passed, good_lines}
use Rattle.card.proofs.Fronts.{Front, front, front_of, front_lines}
use Rattle.boards.specs.Boards.{set_ok, is_fitted, on_board}

-- ---- sets

-- with D, E and N or without them: which of C1 C2 N D E are fitted
pub fitted_are : (d e n : Bool) → map (is_fitted (cond d 1 0 + cond e 2 0 + cond n 4 0)) (1 ∷ 2 ∷ 3 ∷ 4 ∷ 5 ∷ []) ≡ true ∷ true ∷ n ∷ d ∷ e ∷ []
unfolding is_fitted digit
fitted_are true true true = refl
fitted_are true true false = refl
fitted_are true false true = refl
fitted_are true false false = refl
fitted_are false true true = refl
fitted_are false true false = refl
fitted_are false false true = refl
fitted_are false false false = refl

-- with all of them, every operator is
pub fitted_all : (o : ℕ) → is_fitted 7 o ≡ true
unfolding is_fitted digit
fitted_all o = go (eqb o 4) (eqb o 5) (eqb o 3)
  where
    go : (d e n : Bool) → cond d true (cond e true (cond n true true)) ≡ true
    go true e n = refl
    go false true n = refl
    go false false true = refl
    go false false false = refl

-- ---- 1, 10 and 13

pub record GoodBoard (n v s : ℕ) : Type 0 where
  pub lines : lines_ok n ≡ true
  pub value : v ≤ 2
  pub set : set_ok s ≡ true

module _ (n v s : ℕ) where
  pub front_board : Front (on_board n v s)
  unfolding on_board
  front_board =
      front_of (on_lines n) _ (front_lines n) (front_of (refusing (ltb 2 v) 10 0) _ (front (ltb 2 v) 10 0) (front (not (set_ok s)) 13 0))

  pub board_accepted : (x : Answer) (vs : List ℕ) → on_board n v s x ≡ accepted vs → GoodBoard n v s × (x ≡ accepted vs)
  unfolding on_board on_lines
  board_accepted x vs e =
      let lines = refusing_passed _ 1 0 _ vs e in
      let value = refusing_passed _ 10 0 _ vs lines.1 in
      let set = refusing_passed _ 13 0 x vs value.1 in
      (record { lines = not-false _ lines.0; value = ltb-false 2 v value.0; set = not-false _ set.0 }, set.1)

  pub board_passed : GoodBoard n v s → (x : Answer) → on_board n v s x ≡ x
  unfolding on_board
  board_passed g x = good_lines n _ g.lines ∙ refusing_no _ 10 0 _ (le-ltb 2 v g.value) ∙ refusing_no _ 13 0 x (rw g.set)
