-- What the inner functions of synthesis do, in the words of the procedure.
use Rattle.std.specs.Prelude.{ℕ, ◌+◌, ◌*◌, ◌^◌, ◌≤◌, ◌<◌, ◌≡◌, cond, List, [], ◌++◌, map, leb, length, get_or, drop}
use Rattle.digits.specs.Digits.{digit, pack}
use Rattle.gates.specs.declared.Gate.{Gate}
use Rattle.gates.specs.Gates.{applied}
use Rattle.gates.specs.Records.{record_of}
use Rattle.gates.specs.Inner.Words.{bytes_in}
use Rattle.procedure.specs.Procedure.{State, digit_step, row_steps, rows}
use Rattle.synthesis.specs.Synthesis.{gate_for, synthesized}

-- digit k of row i, the digits below k of row i, and the rows below i: each from the table t on, with no gate added before
abbrev pub step_from : ℕ → ℕ → ℕ → List ℕ → State Gate
step_from n i k t = digit_step 3 applied gate_for n i k (record { table = t; found = [] })

abbrev pub row_from : ℕ → ℕ → ℕ → List ℕ → State Gate
row_from n i k t = row_steps 3 applied gate_for n i k (record { table = t; found = [] })

abbrev pub rows_from : ℕ → ℕ → List ℕ → State Gate
rows_from n i t = rows 3 applied gate_for n i (record { table = t; found = [] })

-- ---- a table and its inverse

-- the entries of t are rows of v, and v takes each back to its row
abbrev pub Leads : List ℕ → List ℕ → Type 0
Leads t v = (p : ℕ) → p < length t → (get_or t p 0 < length t) × (get_or v (get_or t p 0) 0 ≡ p)

-- t and v are inverse to each other
pub record Paired (t v : List ℕ) : Type 0 where
  pub size : length v ≡ length t
  pub there : Leads t v
  pub back : Leads v t

-- t has the present entries on n lines
pub record Present (n : ℕ) (t : List ℕ) : Type 0 where
  pub lines : n ≤ 6
  pub size : length t ≡ 3 ^ n
  pub within : (p : ℕ) → p < 3 ^ n → get_or t p 0 < 3 ^ n

-- they are those of the state z
pub record TableReached (n : ℕ) (z : State Gate) (t : List ℕ) : Type 0 where
  pub table : t ≡ z.table
  pub present : Present n t

-- ---- the controls that name a pattern

-- on n lines: the digits of a, and none, 3, from line n up
unfoldable pub full_controls : ℕ → ℕ → ℕ
full_controls n a = pack 4 (λ j. cond (leb n j) 3 (digit 3 j a)) 6

-- full has those of the patterns below m, on up to six lines
pub record NamesBelow (n m : ℕ) (full : List ℕ) : Type 0 where
  pub lines : n ≤ 6
  pub each : (p : ℕ) → p < m → get_or full p 0 ≡ full_controls n p

-- what a gate is made of: its line, the controls that name a pattern, whose digit on that line is to be exchanged, and the digit to exchange it with
pub record GateParts (k controls d : ℕ) : Type 0 where
  pub line : k < 6
  pub packed : controls < 4 ^ 6
  pub from_digit : digit 4 k controls < 3
  pub to_digit : d < 3

-- ---- gates as words

-- the words of the gates stand from place e up to place e' of ws'; from there on it is as ws is, and what stands before e is no matter
pub record WordsLaid (gs : List Gate) (e e' : ℕ) (ws ws' : List ℕ) : Type 0 where
  pub count : e + length gs ≡ e'
  pub size : length ws' ≡ length ws
  pub words : map bytes_in (drop e ws') ≡ map record_of gs ++ map bytes_in (drop e' ws)

-- row i of the table t on n lines, and room for its gates before the place e
pub record RowToSettle (n i : ℕ) (t : List ℕ) (e : ℕ) : Type 0 where
  pub present : Present n t
  pub row : i < 3 ^ n
  pub room : length (row_from n i n t).found ≤ e

-- what row i leaves: the table t' in the place of t, and its gates' words from place e up to place e' of ws', which was ws
pub record RowSettled (n i : ℕ) (t t' : List ℕ) (e e' : ℕ) (ws ws' : List ℕ) : Type 0 where
  pub at : TableReached n (row_from n i n t) t'
  pub laid : WordsLaid (row_from n i n t).found e e' ws ws'

-- the table t on n lines, and room for its cascade's words before the place e
pub record TableToSettle (n : ℕ) (t : List ℕ) (e : ℕ) : Type 0 where
  pub present : Present n t
  pub room : length (synthesized n t) ≤ e

-- what the cascade of the table t with the inverse v needs: room for its gates' words, in an array of 4,010, and for their records
pub record CascadeRoom (n : ℕ) (t v room : List ℕ) : Type 0 where
  pub settle : TableToSettle n t 4010
  pub pair : Paired t v
  pub records_fit : 8 * length (synthesized n t) ≤ length room
