-- The reader: what it hands out at a place, how it moves, and what opening a file gives.
use Rattle.std.specs.Prelude.{ℕ, zero, suc, ◌+◌, ◌≡◌, Bool, cond, ◌&&◌, List, [], ◌∷◌, leb, length, Result, Ok, Err, Option, Some, None}
use Rattle.std.specs.Borrow.{Bor}
use Rattle.card.specs.Card.{Answer, Answer.accepted, Answer.refused, lines_ok}
use Rattle.card.specs.declared.Refusal.{Refusal}
use Rattle.card.specs.Answers.{answer_as}
use Rattle.gates.specs.Records.{is_record, gate_at}
use Rattle.gates.specs.declared.Gate.{Gate}
use Rattle.files.specs.Files.{opening_answer}
use Rattle.readers.specs.declared.Turn.{Turn}
use Rattle.readers.specs.declared.Reader.{Reader}

-- ---- what is handed out: a gate, none at the end, or a refusal

abbrev pub Given : Type 0
Given = Result (Option Gate) Refusal

-- the document's values: 1 and the gate's operator, target and packed controls; 0 at the end
abbrev pub given_values : Option Gate → List ℕ
given_values (Some g) = 1 ∷ g.operator ∷ g.target ∷ g.controls ∷ []
given_values None = 0 ∷ []

abbrev pub given_as : Given → Answer
given_as r = answer_as given_values r

-- ---- the next gate of a reader at place at, on n lines, whose records end at end

-- a whole record stands from place at on before that offset and the file's end
unfoldable pub record_stands : List ℕ → ℕ → ℕ → Bool
record_stands f at end = leb (at + 8) end && leb (at + 8) (length f)

abbrev pub as_given : Gate → Given
as_given g = Ok (Some g)

-- 1; the end; 7 with the place; else the gate
unfoldable pub given_at : List ℕ → ℕ → ℕ → ℕ → Given
given_at f n at end =
    cond (lines_ok n) (cond (record_stands f at end) (cond (is_record n f at) (as_given (gate_at f at)) (Err (Refusal.NoGate at))) (Ok None)) (Err Refusal.Lines)

-- the place afterwards: behind the gate that was handed out, and else the same
unfoldable pub place_after : Given → ℕ → ℕ
place_after (Ok (Some g)) at = at + 8
place_after (Ok None) at = at
place_after (Err e) at = at

unfoldable pub turn_at : List ℕ → ℕ → ℕ → ℕ → Turn
turn_at f n at end = record { given = given_at f n at end; at = place_after (given_at f n at end) at }

-- ---- the reader that keeps hold of the file

-- its turn, and the reader at another place
abbrev pub turn_of : Reader → Turn
turn_of r = turn_at r.file.now r.lines r.at r.end

abbrev pub moved_to : Reader → ℕ → Reader
moved_to r at = record { file = r.file; end = r.end; at = at; lines = r.lines }

-- what it hands out when it is asked k times
unfoldable pub handed : Reader → ℕ → List Given
handed r zero = []
handed r (suc k) = (turn_of r).given ∷ handed (moved_to r (turn_of r).at) k

-- the reader that opening the file f gives: over f itself, or, refused, all 0 over the empty part at its start
pub record Opened (f : Bor (List ℕ)) (r : Reader) : Type 0 where
  pub found : (vs : List ℕ) → opening_answer f.now ≡ accepted vs → (r.file ≡ f) × ((r.lines ∷ r.at ∷ r.end ∷ []) ≡ vs)
  pub none : (k p : ℕ) → opening_answer f.now ≡ refused k p
      → (r.file.ref_ptr ≡ f.ref_ptr) × (r.file.now ≡ []) × ((r.lines ∷ r.at ∷ r.end ∷ []) ≡ 0 ∷ 0 ∷ 0 ∷ [])
