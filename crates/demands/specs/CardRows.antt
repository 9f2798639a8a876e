-- The refusal card as rows in order: the first row that applies decides.
use Rattle.std.specs.Prelude.{ℕ, ◌<◌, ◌≡◌, ◌⊎◌, ◌↔◌, Bool, true, false, List, [], ◌∷◌}
use Rattle.card.specs.Card.{Answer, Answer.accepted, Answer.refused, refusing}

-- a row as a call meets it: whether it applies, its number, and its place
pub record Row : Type 0 where
  pub applies : Bool
  pub number : ℕ
  pub place : ℕ

-- the answer that the rows decide, or x where none applies
unfoldable pub decided : List Row → Answer → Answer
decided [] x = x
decided (row ∷ rows) x = refusing row.applies row.number row.place (decided rows x)

-- the first row that applies has number k and place p
unfoldable pub FirstIs : List Row → ℕ → ℕ → Type 0
FirstIs [] k p = ⊥
FirstIs (row ∷ rows) k p = ((row.applies ≡ true) × (row.number ≡ k) × (row.place ≡ p)) ⊎ ((row.applies ≡ false) × FirstIs rows k p)

-- no row applies
unfoldable pub NoneApplies : List Row → Type 0
NoneApplies [] = Unit {0}
NoneApplies (row ∷ rows) = (row.applies ≡ false) × NoneApplies rows

-- the answer is refusal k at p exactly if the first row that applies is k at p, and accepted with these values exactly if none applies
pub record Exactly (answer : Answer) (rows : List Row) (vs : List ℕ) : Type 0 where
  pub refusals : (k p : ℕ) → (answer ≡ refused k p) ↔ FirstIs rows k p
  pub accepts : (answer ≡ accepted vs) ↔ NoneApplies rows

-- where the answer is a refusal, a lent buffer holds now what it held before
unfoldable pub Kept : Answer → List ℕ → List ℕ → Type 0
Kept answer now before = (k p : ℕ) → answer ≡ refused k p → now ≡ before

-- ---- places, without any search

-- i is the least index below m of which P holds
pub record Least (P : ℕ → Type 0) (m i : ℕ) : Type 0 where
  pub inside : i < m
  pub has : P i
  pub none_before : (j : ℕ) → j < i → P j → ⊥

-- a row applies exactly if P holds of an index below m, and its place is the least
pub record Places (P : ℕ → Type 0) (m : ℕ) (row : Row) : Type 0 where
  pub least : row.applies ≡ true → Least P m row.place
  pub nowhere : row.applies ≡ false → (i : ℕ) → i < m → P i → ⊥
