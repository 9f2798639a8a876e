-- Document 01's procedure from a table to a cascade, over the radix r and a family of gates: `apply g p` is what the gate g makes of the pattern p,
-- and `make n k a d` is the gate on n lines that exchanges the pattern a with the one that has d for its digit k.
use Rattle.std.specs.Prelude.{ℕ, zero, suc, ◌^◌, cond, List, [], ◌∷◌, map, eqb, get_or}
use Rattle.digits.specs.Digits.{digit}

-- the present entries, and the gates added so far, the newest first
pub record State (G : Type 0) : Type 0 where
  pub table : List ℕ
  pub found : List G

module _ (r : ℕ) {G : Type 0} (apply : G → ℕ → ℕ) (make : ℕ → ℕ → ℕ → ℕ → G) where
  -- the gate is added, and applied to all entries
  unfoldable pub adding : G → State G → State G
  adding g s = record { table = map (apply g) s.table; found = g ∷ s.found }

  -- row i, digit k: a is the present entry i; a gate is added where its digit k differs from that of i
  unfoldable pub digit_step : ℕ → ℕ → ℕ → State G → State G
  digit_step n i k s =
      let a : ℕ = get_or s.table i 0 in
      cond (eqb (digit r k a) (digit r k i)) s (adding (make n k a (digit r k i)) s)

  -- row i, the digits below k from x0 upward
  unfoldable pub row_steps : ℕ → ℕ → ℕ → State G → State G
  row_steps n i zero s = s
  row_steps n i (suc k) s = digit_step n i k (row_steps n i k s)

  -- the rows below i
  unfoldable pub rows : ℕ → ℕ → State G → State G
  rows n zero s = s
  rows n (suc i) s = row_steps n i n (rows n i s)

  -- all rows, from the given table on
  unfoldable pub settled : ℕ → List ℕ → State G
  settled n t = rows n (r ^ n) (record { table = t; found = [] })

  -- the answer: the gates in reverse of the order in which they were added
  unfoldable pub cascade_for : ℕ → List ℕ → List G
  cascade_for n t = (settled n t).found
