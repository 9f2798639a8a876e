-- What a call answers that hands on the refusal of another by `?`. Assumes nothing.
use Rattle.std.proofs.Common.{◌≡◌, ap, sym, ◌∙◌, ℕ, List, Result, Ok, Err}
use Rattle.std.specs.Result.{IsErrAnd}
use Rattle.card.specs.declared.Refusal.{Refusal}
use Rattle.card.specs.Card.{Answer, Answer.refused, after}
use Rattle.card.specs.Answers.{number_of, place_of, answer_as}
use Rattle.card.proofs.Cards.{after_refused}

-- r is what the call answers, e the refusal that the other gave, and d what is known of it
module _ {A : Type 0} (values : A → List ℕ) (e d : Refusal) (is : e ≡ d) (r : Result A Refusal) (w : IsErrAnd r (λ y. y ≡ e)) where
  pub exit : answer_as values r ≡ refused (number_of d) (place_of d)
  exit = by r w
    where
      by : (r : Result A Refusal) → IsErrAnd r (λ y. y ≡ e) → answer_as values r ≡ refused (number_of d) (place_of d)
      by (Ok x) w = absurd w
      by (Err y) w = ap (λ z. refused (number_of z) (place_of z)) (w ∙ is)

  -- and what the lent buffer holds
  pub exit_both : (a : Answer) (new old : List ℕ) → a ≡ refused (number_of d) (place_of d) → record { answer : answer_as values r ≡ a; room_after : old ≡ after a new old }
  exit_both a new old refuses = record { answer = exit ∙ sym refuses; room_after = sym (after_refused a _ _ new old refuses) }
