-- Refusals in front of an answer: they refuse it, whatever it is, or let it through. So what they do to one answer they do to every other. Assumes nothing.
use Rattle.std.proofs.Common.{◌≡◌, refl, sym, ◌∙◌, Bool, true, false, not, List, ℕ}
use Rattle.card.specs.Card.{Answer, Answer.accepted, Answer.refused, refusing, lines_ok, on_lines}
use Rattle.card.proofs.Cards.{not_accepted, refusing_yes, refusing_no}

-- `f x` is the answer x behind some refusals
pub data Front (f : Answer → Answer) : Type 0 where
  stops : (k p : ℕ) → ((x : Answer) → f x ≡ refused k p) → Front f
  passes : ((x : Answer) → f x ≡ x) → Front f

-- one refusal, and one in front of others
pub front : (bad : Bool) (k p : ℕ) → Front (refusing bad k p)
front true k p = Front.stops k p (λ x. refusing_yes true k p x refl)
front false k p = Front.passes (λ x. refusing_no false k p x refl)

pub front_of : (f g : Answer → Answer) → Front f → Front g → Front (λ x. f (g x))
front_of f g (Front.stops k p all) b = Front.stops k p (λ x. all (g x))
front_of f g (Front.passes all) (Front.stops k p each) = Front.stops k p (λ x. all (g x) ∙ each x)
front_of f g (Front.passes all) (Front.passes each) = Front.passes (λ x. all (g x) ∙ each x)

pub front_lines : (n : ℕ) → Front (on_lines n)
unfolding on_lines
front_lines n = front (not (lines_ok n)) 1 0

-- what refuses where it could accept refuses every other answer alike
pub front_refused : (f : Answer → Answer) → Front f → (vs : List ℕ) (k p : ℕ) → f (accepted vs) ≡ refused k p → (x : Answer) → f x ≡ refused k p
front_refused f (Front.stops l q all) vs k p e x = all x ∙ sym (all (accepted vs)) ∙ e
front_refused f (Front.passes all) vs k p e x = not_accepted k p vs (sym e ∙ all (accepted vs))
