-- What is in a room or in a buffer after a text was stored.
use Rattle.std.specs.Prelude.{ℕ, ◌+◌, ◌≡◌, ◌≤◌, List, ◌++◌, length, take}
use Rattle.std.proofs.lemmas.List.Edits.{sets}
use Rattle.texts.specs.declared.storing.Writer.{Writer}

-- the text was stored from place at on: what the room holds afterwards, and the place behind the text
pub record Stored (room : List ℕ) (at : ℕ) (text now : List ℕ) (next : ℕ) : Type 0 where
  pub bytes : now ≡ sets room at text
  pub behind : next ≡ at + length text

-- a writer's room takes the text behind what is written
abbrev pub HasRoom : Writer → List ℕ → Type 0
HasRoom out text = out.at + length text ≤ length out.room.now

-- a writer has stored the text in its room, behind what was written
pub record Wrote (out : Writer) (text : List ℕ) (after : Writer) : Type 0 where
  pub same : after.room.ghost_name ≡ out.room.ghost_name
  pub stored : Stored out.room.now out.at text after.room.now after.at

-- the text was stored behind the first at bytes of a line; what stands behind it does not count
pub record Appended (line : List ℕ) (at : ℕ) (text now : List ℕ) (next : ℕ) : Type 0 where
  pub starts : take next now ≡ take at line ++ text
  pub behind : next ≡ at + length text
  pub long : length now ≡ length line
