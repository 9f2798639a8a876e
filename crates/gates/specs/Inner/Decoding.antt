-- What decoding a record answers.
use Rattle.std.specs.Prelude.{ℕ, cond, List, Result, Ok, Err}
use Rattle.card.specs.declared.Refusal.{Refusal}
use Rattle.card.specs.Card.{lines_ok}
use Rattle.gates.specs.Records.{is_record, gate_at}
use Rattle.gates.specs.declared.Gate.{Gate}

-- the record at place at: 1 where the lines are not 1 to 6, 7 at that place where it is no gate on n lines, else the gate
unfoldable pub decoded : ℕ → List ℕ → ℕ → Result Gate Refusal
decoded n b at = cond (lines_ok n) (cond (is_record n b at) (Ok (gate_at b at)) (Err (Refusal.NoGate at))) (Err Refusal.Lines)
