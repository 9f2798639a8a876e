-- What the two round trips between a cascade and its text in the other names give back.
use Rattle.std.specs.Prelude.{ℕ, ◌≡◌, List, [], ◌∷◌, length}
use Rattle.card.specs.Card.{Answer.accepted, laid}
use Rattle.cascades.specs.Cascades.{records}
use Rattle.names.specs.Names.{read_names_answer, read_names_room, write_names_answer, write_names_room}

-- reading the text t into a room gives the cascade b
pub record ReadsBack (n : ℕ) (b t room : List ℕ) : Type 0 where
  pub answer : read_names_answer n t (length room) ≡ accepted (records b ∷ [])
  pub the_records : read_names_room n t room ≡ laid b room

-- writing the cascade b into a room gives the text t
pub record WritesBack (n : ℕ) (b t room : List ℕ) : Type 0 where
  pub answer : write_names_answer n b (length room) ≡ accepted (length t ∷ [])
  pub the_text : write_names_room n b room ≡ laid t room
