-- The tables as the code moves them are those of the procedure: one digit that differs (`step_gate`), a row gate by gate (`row_at_start`, `row_skip`,
-- `row_more`), the rows one
-- by one (`rows_none`, `rows_more`), and the present entries stay patterns. Assumes nothing.
use Rattle.std.proofs.Common.{◌≡◌, refl, sym, ap, ◌∙◌, List, [], ◌∷◌, ◌++◌, map, ℕ, ◌+◌, ◌^◌, ◌≤◌, ◌<◌, add-one, arith, length, get_or, length-append}
use Rattle.std.proofs.Common.{ext_get_or}
use Rattle.std.proofs.Math.Decide.{le_ind}
use Rattle.std.proofs.lemmas.List.{length-map}
use Rattle.ranges.proofs.Lists.{map_at}
use Rattle.digits.specs.Digits.{digit, put}
use Rattle.digits.proofs.Digits.{digit_lt}
use Rattle.digits.proofs.Sizes.{three_pos}
use Rattle.gates.specs.declared.Gate.{Gate}
use Rattle.gates.specs.Gates.{applied}
use Rattle.procedure.specs.Procedure.{State, adding, digit_step, row_steps, rows, settled, cascade_for}
use Rattle.procedure.specs.Inner.Exchanges.{exchanged}
use Rattle.procedure.proofs.Steps.{begun, step_same, step_other, row_next, row_grows, rows_next, rows_grow}
use Rattle.procedure.proofs.Swaps.{gate_exchanges}
use Rattle.synthesis.specs.Synthesis.{gate_for, synthesized}
use Rattle.synthesis.specs.Inner.TableSteps.{step_from, row_from, rows_from, Present, TableReached}
use Rattle.synthesis.proofs.Ternary.{ternary}
use Rattle.synthesis.proofs.Pairings.{present_exchanged}

-- ---- one digit

-- a is the entry of row i, and d the digit of i on line k
module _ (n i k a d : ℕ) (t : List ℕ) (w : Present n t) (below : i < 3 ^ n) (line : k < n) (ea : a ≡ get_or t i 0) (ed : d ≡ digit 3 k i) where
  entry_lt : a < 3 ^ n
  entry_lt = rw ea (w.within i below)

  value_lt : d < 3
  value_lt = rw ed (digit_lt 3 k i three_pos)

  module _ (ne : digit 3 k a ≡ d → ⊥) where
    exchanges : map (applied (gate_for n k a d)) t ≡ map (exchanged a (put 3 k a d)) t
    exchanges =
        ext_get_or 0 _ _ (length-map t (applied (gate_for n k a d)) ∙ sym (length-map t (exchanged a (put 3 k a d))))
        (λ p lp.
        let l : p < length t = omega (arith, lp, length-map t (applied (gate_for n k a d))) in
        map_at (applied (gate_for n k a d)) t p 0 0 l
        ∙ gate_exchanges 3 applied gate_for n (ternary n w.lines) k a d (record { line = line; pattern = entry_lt; value = value_lt; differs = ne }) (get_or t p 0)
        (w.within p (omega (arith, w.size)))
        ∙ sym (map_at (exchanged a (put 3 k a d)) t p 0 0 l))

    pub step_gate : step_from n i k t ≡ record { table = map (exchanged a (put 3 k a d)) t; found = gate_for n k a d ∷ [] }
    unfolding adding
    step_gate =
        rw (← exchanges, ed, ea) (step_other 3 applied gate_for n i k (begun t) (λ e. ne (ap (digit 3 k) ea ∙ e ∙ sym ed)))

-- nothing was moved, or two values were exchanged
pub still : (n : ℕ) (t : List ℕ) (z : State Gate) → Present n t → z ≡ begun t → TableReached n z t
still n t z w e = rw e (record { table = refl; present = w })

pub exchanged_there : (n : ℕ) (t t' : List ℕ) (a b : ℕ) (z : State Gate) → Present n t → a < 3 ^ n → b < 3 ^ n → t' ≡ map (exchanged a b) t → map (exchanged a b) t ≡ z.table
    → TableReached n z t'
exchanged_there n t t' a b z w la lb e q = record { table = e ∙ q; present = rw e (present_exchanged n t a b w la lb) }

-- ---- a row, digit by digit

pub row_at_start : (n i : ℕ) (t : List ℕ) → row_from n i 0 t ≡ begun t
unfolding row_steps
row_at_start n i t = refl

-- lines on which the entry has the digits of its row add nothing
pub row_skip : (n i j k : ℕ) (t : List ℕ) → j ≤ k → ((l : ℕ) → j ≤ l → l < k → digit 3 l (get_or (row_from n i j t).table i 0) ≡ digit 3 l i)
    → row_from n i k t ≡ row_from n i j t
unfolding row_steps
row_skip n i j k t le =
    le_ind (λ k. ((l : ℕ) → j ≤ l → l < k → digit 3 l (get_or (row_from n i j t).table i 0) ≡ digit 3 l i) → row_from n i k t ≡ row_from n i j t) (λ h. refl)
    (λ m lo ih h.
    ap (digit_step 3 applied gate_for n i m) (ih (λ l x y. h l x (omega arith)))
    ∙ step_same 3 applied gate_for n i m (row_from n i j t) (h m lo (omega arith))) k le

module _ (n i k : ℕ) (t t' : List ℕ) (at : TableReached n (row_from n i k t) t') where
  pub row_found : (row_from n i (k + 1) t).found ≡ (step_from n i k t').found ++ (row_from n i k t).found
  row_found = rw (add-one k, at.table) (ap (λ (z : State Gate). z.found) (row_next 3 applied gate_for n i k (begun t)))

  pub row_more : (t'' : List ℕ) → TableReached n (step_from n i k t') t'' → TableReached n (row_from n i (k + 1) t) t''
  row_more t'' w =
      record {
        table =
            w.table ∙ ap (λ (x : List ℕ). (step_from n i k x).table) at.table
            ∙ rw (add-one k) (sym (ap (λ (z : State Gate). z.table) (row_next 3 applied gate_for n i k (begun t))));
        present = w.present;
      }

  -- where a row has room, its next digit has
  pub row_room : (laid most : ℕ) → k < n → length (row_from n i n t).found + laid ≤ most
      → length (step_from n i k t').found + (length (row_from n i k t).found + laid) ≤ most
  row_room laid most lt fits =
      omega (arith, ap length row_found ∙ length-append (step_from n i k t').found (row_from n i k t).found, row_grows 3 applied gate_for n i (begun t) (k + 1) n (omega arith))

-- ---- the rows, one by one

-- all rows have the gates of the cascade, and fewer rows no more than those
pub rows_all : (n i : ℕ) (t : List ℕ) → i ≡ 3 ^ n → (rows_from n i t).found ≡ synthesized n t
unfolding synthesized cascade_for settled
rows_all n i t e = ap (λ (j : ℕ). (rows_from n j t).found) e

rows_within : (n i : ℕ) (t : List ℕ) → i ≤ 3 ^ n → length (rows_from n i t).found ≤ length (synthesized n t)
rows_within n i t le = rw (← rows_all n (3 ^ n) t refl) (rows_grow 3 applied gate_for n (begun t) i (3 ^ n) le)

pub rows_none : (n : ℕ) (t : List ℕ) → rows_from n 0 t ≡ begun t
unfolding rows
rows_none n t = refl

module _ (n i : ℕ) (t t' : List ℕ) (at : TableReached n (rows_from n i t) t') where
  pub rows_found : (rows_from n (i + 1) t).found ≡ (row_from n i n t').found ++ (rows_from n i t).found
  rows_found = rw (add-one i, at.table) (ap (λ (z : State Gate). z.found) (rows_next 3 applied gate_for n i (begun t)))

  pub rows_room : (most : ℕ) → i < 3 ^ n → length (synthesized n t) ≤ most → length (row_from n i n t').found + length (rows_from n i t).found ≤ most
  rows_room most lt fits =
      omega (arith, ap length rows_found ∙ length-append (row_from n i n t').found (rows_from n i t).found, rows_within n (i + 1) t (omega arith))

  pub rows_more : (t'' : List ℕ) → TableReached n (row_from n i n t') t'' → TableReached n (rows_from n (i + 1) t) t''
  rows_more t'' w =
      record {
        table =
            w.table ∙ ap (λ (x : List ℕ). (row_from n i n x).table) at.table
            ∙ rw (add-one i) (sym (ap (λ (z : State Gate). z.table) (rows_next 3 applied gate_for n i (begun t))));
        present = w.present;
      }
