-- The procedure step by step: what one digit does, and that a state's gates are those found from its table on, before the gates it had.
-- The gate family is any. Assumes nothing.
use mathlib.Core.Path.{◌≡◌, refl, sym, ap, ◌∙◌}
use mathlib.Core.List.{List, [], ◌++◌, append_assoc}
use Prim.Native.Nat.{ℕ, zero, suc, ◌+◌, ◌≤◌}
use native.Mathlib.Nat.{le_refl}
use native.Mathlib.Decide.{ℕ_discrete, le_ind}
use native.Mathlib.Omega.{arith}
use lib.ListN.{length, get_or, length-append}
use borrow.Author.Tests.{eq-eqb, ne_eqb}
use Rattle.digits.specs.Digits.{digit}
use Rattle.procedure.specs.Procedure.{State, adding, digit_step, row_steps, rows}

-- a table, and no gate found yet
abbrev pub begun : {G : Type 0} → List ℕ → State G
begun t = record { table = t; found = [] }

-- the table of z, and its gates on top of those of s
abbrev pub joined : {G : Type 0} → State G → State G → State G
joined z s = record { table = z.table; found = z.found ++ s.found }

joined_joined : {G : Type 0} (x y z : State G) → joined x (joined y z) ≡ joined (joined x y) z
joined_joined {G} x y z = ap (λ (gs : List G). record { table = x.table; found = gs }) (sym (append_assoc x.found y.found z.found))

module _ (r : ℕ) {G : Type 0} (apply : G → ℕ → ℕ) (make : ℕ → ℕ → ℕ → ℕ → G) (n i : ℕ) where
  -- the digits agree, or a gate is added
  pub step_same : (k : ℕ) (s : State G) → digit r k (get_or s.table i 0) ≡ digit r k i → digit_step r apply make n i k s ≡ s
  unfolding digit_step
  step_same k s e = rw (eq-eqb (digit r k (get_or s.table i 0)) (digit r k i) e)

  pub step_other : (k : ℕ) (s : State G) → (digit r k (get_or s.table i 0) ≡ digit r k i → ⊥)
      → digit_step r apply make n i k s ≡ adding r apply make (make n k (get_or s.table i 0) (digit r k i)) s
  unfolding digit_step
  step_other k s ne = rw (ne_eqb (digit r k (get_or s.table i 0)) (digit r k i) ne)

  -- one digit from a state on is that digit from its table on
  pub step_joined : (k : ℕ) (s : State G) → digit_step r apply make n i k s ≡ joined (digit_step r apply make n i k (begun s.table)) s
  unfolding adding
  step_joined k s = go (ℕ_discrete (digit r k (get_or s.table i 0)) (digit r k i))
    where
      go : Dec (digit r k (get_or s.table i 0) ≡ digit r k i) → digit_step r apply make n i k s ≡ joined (digit_step r apply make n i k (begun s.table)) s
      go (yes e) = step_same k s e ∙ ap (λ (z : State G). joined z s) (sym (step_same k (begun s.table) e))
      go (no ne) = step_other k s ne ∙ ap (λ (z : State G). joined z s) (sym (step_other k (begun s.table) ne))

  pub row_next : (k : ℕ) (s : State G)
      → row_steps r apply make n i (suc k) s ≡ joined (digit_step r apply make n i k (begun (row_steps r apply make n i k s).table)) (row_steps r apply make n i k s)
  unfolding row_steps
  row_next k s = step_joined k (row_steps r apply make n i k s)

  row_joined : (k : ℕ) (s : State G) → row_steps r apply make n i k s ≡ joined (row_steps r apply make n i k (begun s.table)) s
  unfolding row_steps
  row_joined zero s = refl
  row_joined (suc k) s =
      let z : State G = row_steps r apply make n i k (begun s.table) in
      let one : State G = digit_step r apply make n i k (begun z.table) in
      ap (digit_step r apply make n i k) (row_joined k s) ∙ step_joined k (joined z s) ∙ joined_joined one z s ∙ ap (λ (x : State G). joined x s) (sym (step_joined k z))

  -- ---- how many gates: at most one for a digit, and never fewer than before

  step_few : (k : ℕ) (t : List ℕ) → length (digit_step r apply make n i k (begun t)).found ≤ 1
  unfolding adding
  step_few k t = go (ℕ_discrete (digit r k (get_or t i 0)) (digit r k i))
    where
      go : Dec (digit r k (get_or t i 0) ≡ digit r k i) → length (digit_step r apply make n i k (begun t)).found ≤ 1
      go (yes e) = rw (step_same k (begun t) e) (omega arith)
      go (no ne) = rw (step_other k (begun t) ne) (omega arith)

  pub row_length : (k : ℕ) (s : State G)
      → length (row_steps r apply make n i (suc k) s).found
      ≡ length (digit_step r apply make n i k (begun (row_steps r apply make n i k s).table)).found + length (row_steps r apply make n i k s).found
  row_length k s = ap (λ (z : State G). length z.found) (row_next k s)
      ∙ length-append (digit_step r apply make n i k (begun (row_steps r apply make n i k s).table)).found (row_steps r apply make n i k s).found

  pub row_few : (k : ℕ) (t : List ℕ) → length (row_steps r apply make n i k (begun t)).found ≤ k
  unfolding row_steps
  row_few zero t = omega arith
  row_few (suc k) t = omega (arith, row_length k (begun t), step_few k (row_steps r apply make n i k (begun t)).table, row_few k t)

  pub row_grows : (s : State G) (k m : ℕ) → k ≤ m → length (row_steps r apply make n i k s).found ≤ length (row_steps r apply make n i m s).found
  row_grows s k m le =
      le_ind (λ (j : ℕ). length (row_steps r apply make n i k s).found ≤ length (row_steps r apply make n i j s).found) (le_refl _)
      (λ j l q. omega (arith, row_length j s)) m le

pub rows_next : (r : ℕ) {G : Type 0} (apply : G → ℕ → ℕ) (make : ℕ → ℕ → ℕ → ℕ → G) (n i : ℕ) (s : State G)
    → rows r apply make n (suc i) s ≡ joined (row_steps r apply make n i n (begun (rows r apply make n i s).table)) (rows r apply make n i s)
unfolding rows
rows_next r apply make n i s = row_joined r apply make n i n (rows r apply make n i s)

pub rows_length : (r : ℕ) {G : Type 0} (apply : G → ℕ → ℕ) (make : ℕ → ℕ → ℕ → ℕ → G) (n i : ℕ) (s : State G)
    → length (rows r apply make n (suc i) s).found
    ≡ length (row_steps r apply make n i n (begun (rows r apply make n i s).table)).found + length (rows r apply make n i s).found
rows_length r {G} apply make n i s =
    ap (λ (z : State G). length z.found) (rows_next r apply make n i s)
    ∙ length-append (row_steps r apply make n i n (begun (rows r apply make n i s).table)).found (rows r apply make n i s).found

pub rows_grow : (r : ℕ) {G : Type 0} (apply : G → ℕ → ℕ) (make : ℕ → ℕ → ℕ → ℕ → G) (n : ℕ) (s : State G) (i m : ℕ) → i ≤ m
    → length (rows r apply make n i s).found ≤ length (rows r apply make n m s).found
rows_grow r {G} apply make n s i m le =
    le_ind (λ (j : ℕ). length (rows r apply make n i s).found ≤ length (rows r apply make n j s).found) (le_refl _)
    (λ j l q. omega (arith, rows_length r apply make n j s)) m le
