-- Document 01's values for what tidying answers.
use Rattle.std.specs.Prelude.{ℕ, List, [], ◌∷◌, Result}
use Rattle.card.specs.declared.Refusal.{Refusal}
use Rattle.card.specs.Card.{Answer}
use Rattle.card.specs.Answers.{answer_as}
use Rattle.tidying.specs.declared.Tidied.{Tidied}

abbrev pub tidied_values : Tidied → List ℕ
tidied_values t = t.left ∷ t.steps ∷ []

abbrev pub tidied_as : Result Tidied Refusal → Answer
tidied_as r = answer_as tidied_values r
