-- What the two round trips of cascade files give back.
use Rattle.std.specs.Prelude.{ℕ, ◌<◌, ◌≡◌, List, [], ◌∷◌, length, get_or}
use Rattle.card.specs.Card.{Answer.accepted, laid}
use Rattle.cascades.specs.Cascades.{records}
use Rattle.files.specs.Files.{write_answer, write_room, read_answer, read_records, read_note}

-- f is a list of bytes, as every lent one is
abbrev pub Bytes : List ℕ → Type 0
Bytes f = (i : ℕ) → get_or f i 0 < 256

-- reading the file f into two rooms gives the cascade b on n lines and the note back
pub record GivesBack (n : ℕ) (b note f room note_room : List ℕ) : Type 0 where
  pub answer : read_answer f (length room) (length note_room) ≡ accepted (n ∷ records b ∷ length note ∷ [])
  pub the_records : read_records f room note_room ≡ laid b room
  pub the_note : read_note f room note_room ≡ laid note note_room

-- writing a cascade and a note into a room gives the file f
pub record GivesFile (n : ℕ) (b note f room : List ℕ) : Type 0 where
  pub answer : write_answer n b note (length room) ≡ accepted (length f ∷ [])
  pub the_file : write_room n b note room ≡ laid f room
