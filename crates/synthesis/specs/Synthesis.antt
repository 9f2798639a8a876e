-- From table to cascade: the gate that is added, the cascade, the bound on its gates, and the call.
use Rattle.std.specs.Prelude.{ℕ, ◌+◌, ◌-◌, ◌*◌, ◌/◌, ◌^◌, cond, ◌||◌, List, [], ◌∷◌, eqb, leb, ltb, length}
use Rattle.digits.specs.Digits.{digit, pack}
use Rattle.card.specs.Card.{Answer, Answer.accepted, refusing, on_lines, after, laid}
use Rattle.gates.specs.declared.Gate.{Gate}
use Rattle.gates.specs.Gates.{applied}
use Rattle.tables.specs.Tables.{on_table}
use Rattle.procedure.specs.Procedure.{cascade_for}
use Rattle.cascades.specs.Cascades.{bytes_of}

-- the operator that exchanges two digit values: N 0 and 2, D 1 and 2, E 0 and 1
unfoldable pub exchanger : ℕ → ℕ → ℕ
exchanger x y = cond (eqb (x + y) 2) 3 (cond (eqb (x + y) 3) 4 5)

-- the control on line j of the gate for digit k of a: that line's digit, and none on the target and from line n up
unfoldable pub control_for : ℕ → ℕ → ℕ → ℕ → ℕ
control_for n k a j = cond (eqb j k || leb n j) 3 (digit 3 j a)

-- the gate that exchanges digit k of a with d, where all other lines are as in a
unfoldable pub gate_for : ℕ → ℕ → ℕ → ℕ → Gate
gate_for n k a d = record { operator = exchanger (digit 3 k a) d; target = k; controls = pack 4 (control_for n k a) 6 }

-- the cascade of a table
unfoldable pub synthesized : ℕ → List ℕ → List Gate
synthesized n t = cascade_for 3 applied gate_for n t

-- the bound: so many records the room must take
unfoldable pub bound : ℕ → ℕ
bound n = n * 3 ^ n - (3 ^ n - 1) / 2

-- 1 2 3 4 5: a room of so many bytes
unfoldable pub synthesize_answer : ℕ → List ℕ → ℕ → Answer
synthesize_answer n t room = on_lines n (on_table (3 ^ n) t (refusing (ltb (room / 8) (bound n)) 5 (bound n) (accepted (length (synthesized n t) ∷ []))))

unfoldable pub synthesize_room : ℕ → List ℕ → List ℕ → List ℕ
synthesize_room n t room = after (synthesize_answer n t (length room)) (laid (bytes_of (synthesized n t)) room) room
