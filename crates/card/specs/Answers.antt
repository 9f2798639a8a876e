-- What a call's result is as an answer of the card: the number and place of each refusal, and the values of what was accepted.
use Rattle.std.specs.Prelude.{ℕ, List, [], ◌∷◌, Result, Ok, Err}
use Rattle.card.specs.declared.Refusal.{Refusal}
use Rattle.card.specs.Card.{Answer, Answer.accepted, Answer.refused}

-- its number
abbrev pub number_of : Refusal → ℕ
number_of Refusal.Lines = 1
number_of Refusal.TableLength = 2
number_of (Refusal.LargeEntry p) = 3
number_of (Refusal.RepeatedEntry p) = 4
number_of (Refusal.Room p) = 5
number_of Refusal.CascadeLength = 6
number_of (Refusal.NoGate p) = 7
number_of Refusal.LargePattern = 8
number_of Refusal.Frame = 9
number_of Refusal.Value = 10
number_of (Refusal.OtherTable p) = 11
number_of (Refusal.NoGateLine p) = 12
number_of Refusal.FittedSet = 13
number_of (Refusal.Text p) = 14

-- its place, 0 where it has none
abbrev pub place_of : Refusal → ℕ
place_of (Refusal.LargeEntry p) = p
place_of (Refusal.RepeatedEntry p) = p
place_of (Refusal.Room p) = p
place_of (Refusal.NoGate p) = p
place_of (Refusal.OtherTable p) = p
place_of (Refusal.NoGateLine p) = p
place_of (Refusal.Text p) = p
place_of e = 0

-- a result as an answer; `values` are those of what was accepted
abbrev pub answer_as : {A : Type 0} → (A → List ℕ) → Result A Refusal → Answer
answer_as values (Ok x) = accepted (values x)
answer_as values (Err e) = refused (number_of e) (place_of e)

-- with no value, or with one number
abbrev pub done_as : Result Unit Refusal → Answer
done_as r = answer_as (λ _. []) r

abbrev pub number_as : Result ℕ Refusal → Answer
number_as r = answer_as (λ m. m ∷ []) r
