-- Gate records: 8 bytes, the operator, the target, and a byte for each of x0 to x5.
use Rattle.std.specs.Prelude.{ℕ, ◌+◌, Bool, cond, ◌&&◌, ◌||◌, List, [], ◌∷◌, eqb, leb, ltb, length, get_or}
use Rattle.ranges.specs.Ranges.{every}
use Rattle.digits.specs.Digits.{pack}
use Rattle.gates.specs.Gates.{control}
use Rattle.gates.specs.declared.Gate.{Gate}

-- the byte c of line k, for a gate on n lines with target t: 3 on the target and from line n up, else 0 to 3
unfoldable pub line_ok : ℕ → ℕ → ℕ → ℕ → Bool
line_ok n t k c = cond (eqb k t || leb n k) (eqb c 3) (leb c 3)

-- the six control bytes of the record at place at are right
unfoldable pub lines_ok_at : ℕ → ℕ → List ℕ → ℕ → Bool
lines_ok_at n t b at = every (λ k. line_ok n t k (get_or b (at + 2 + k) 0)) 0 6

-- the six control bytes of the record at place at, as one number
unfoldable pub packed_at : List ℕ → ℕ → ℕ
packed_at b at = pack 4 (λ k. get_or b (at + 2 + k) 0) 6

-- the 8 bytes from place at on are a gate on n lines
unfoldable pub is_record : ℕ → List ℕ → ℕ → Bool
is_record n b at =
    leb (at + 8) (length b)
    && (leb 1 (get_or b at 0) && leb (get_or b at 0) 5)
    && ltb (get_or b (at + 1) 0) n
    && lines_ok_at n (get_or b (at + 1) 0) b at

-- the gate that the 8 bytes from place at on write down
unfoldable pub gate_at : List ℕ → ℕ → Gate
gate_at b at = record { operator = get_or b at 0; target = get_or b (at + 1) 0; controls = packed_at b at }

-- the 8 bytes of a gate
unfoldable pub record_of : Gate → List ℕ
record_of g = g.operator ∷ g.target ∷ control g 0 ∷ control g 1 ∷ control g 2 ∷ control g 3 ∷ control g 4 ∷ control g 5 ∷ []
