-- A record as one number, its first byte lowest: byte 0 is the operator, byte 1 the target, byte 2 + k the control of line k. What is asked of its bytes
-- is asked of all at once.
use Rattle.std.specs.Prelude.{ℕ, ◌+◌, ◌*◌, ◌/◌, ◌%◌, ◌^◌, ◌≤◌, ◌<◌, ◌≡◌, Bool, cond, ◌&&◌, List, [], ◌∷◌, eqb, leb, ltb, get_or}
use Rattle.ranges.specs.Ranges.{every}
use Rattle.digits.specs.Digits.{digit, pack}
use Rattle.gates.specs.declared.Gate.{Gate}
use Rattle.gates.specs.Records.{line_ok}

abbrev pub byte : ℕ → ℕ → ℕ
byte k w = digit 256 k w

-- w is the 8 bytes from place at on
pub record Word (b : List ℕ) (at w : ℕ) : Type 0 where
  pub low : w < 256 ^ 8
  pub bytes : (k : ℕ) → k < 8 → byte k w ≡ get_or b (at + k) 0

-- its 8 bytes, as they are stored
unfoldable pub bytes_in : ℕ → List ℕ
bytes_in w = byte 0 w ∷ byte 1 w ∷ byte 2 w ∷ byte 3 w ∷ byte 4 w ∷ byte 5 w ∷ byte 6 w ∷ byte 7 w ∷ []

-- its control bytes are right for a gate on n lines with target t
unfoldable pub lines_ok_in : ℕ → ℕ → ℕ → Bool
lines_ok_in n t w = every (λ k. line_ok n t k (byte (2 + k) w)) 0 6

-- it is a gate on n lines
unfoldable pub is_word : ℕ → ℕ → Bool
is_word n w = (leb 1 (byte 0 w) && leb (byte 0 w) 5) && ltb (byte 1 w) n && lines_ok_in n (byte 1 w) w

-- and the gate that it writes down
unfoldable pub gate_of : ℕ → Gate
gate_of w = record { operator = byte 0 w; target = byte 1 w; controls = pack 4 (λ k. byte (2 + k) w) 6 }

-- 3 in the byte of each line that can have no control: the target, and those from n up. The six bytes of 3 lose those below line n, and what is left is
-- moved up beyond the operator's byte and the target's.
unfoldable pub bare : ℕ → ℕ → ℕ
bare n t = 0x1_0000 * (0x0303_0303_0303 / 256 ^ n * 256 ^ n + 3 * 256 ^ t)

-- its control bytes are below 4, as a gate's are
pub record LowControls (w : ℕ) : Type 0 where
  pub each : (k : ℕ) → k < 6 → byte (2 + k) w < 4

-- what is known of the number that the record of a gate is, or of what stands where a gate has gone: operator 0 on line 6
pub record GateWord (w : ℕ) : Type 0 where
  pub small : w < 256 ^ 8
  pub op_high : w % 256 ≤ 5
  pub on_line : w / 256 % 256 ≤ 6
  pub lines : LowControls w

-- ---- six bytes at once: 1 for each of which something holds

-- a gate's controls, and the lines that hold something else than the control's byte
unfoldable pub control_marks : ℕ → ℕ
control_marks w = pack 256 (λ k. cond (eqb (byte (2 + k) w) 3) 0 1) 6

unfoldable pub other_marks : ℕ → ℕ → ℕ
other_marks w d = pack 256 (λ k. cond (eqb (byte (2 + k) w) (byte k d)) 0 1) 6
