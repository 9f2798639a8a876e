-- What tidying promises, in plain sight: of every well-formed cascade on n lines, and at the end of every list of gates. Each is a sentence of demand
-- 3. Assumes nothing.
use mathlib.Core.Path.{◌≡◌, refl, ◌∙◌}
use mathlib.Core.Bool.{true, false, cond}
use mathlib.Core.List.{List}
use Prim.Native.Nat.{ℕ, ◌^◌, ◌<◌, ◌≤◌}
use native.Mathlib.Omega.{arith}
use lib.ListN.{length}
use Rattle.ranges.specs.Lists.{Each, total}
use Rattle.ranges.proofs.Spans.{span_ext}
use Rattle.gates.specs.declared.Gate.{Gate}
use Rattle.gates.specs.Gates.{IsGate}
use Rattle.cascades.specs.Cascades.{ran, table_for, table_of, Cascade}
use Rattle.boards.specs.Boards.{is_fitted}
use Rattle.pricing.specs.Prices.{cascade_price}
use Rattle.rules.specs.Rules.{fits}
use Rattle.rules.specs.Tidying.{gate, is_open, ruled, gates_and_controls, tidied, Repetition}
use Rattle.rules.proofs.Weights.{price_with, price_fitted}
use Rattle.rules.proofs.TidySteps.{ruled_stepped, stepped_gates, stepped_keeps, stepped_count, stepped_price, step_stepped}
use Rattle.rules.proofs.Endings.{nothing_fits, steps_keep, stays, tidied_procedure}

-- a rule on an open pair, the first or any other, keeps what the cascade computes at every pattern
pub rule_keeps : (n : ℕ) (gs : List Gate) (i j : ℕ) → Each (IsGate n) gs → i < j → j < length gs → is_open gs i j ≡ true → fits (gate gs i) (gate gs j) ≡ true
    → (p : ℕ) → ran (ruled gs i j) p ≡ ran gs p
rule_keeps n gs i j ok ij inside o f = stepped_keeps n (ruled_stepped gs i j ij inside o f) ok

tidied_gates : (n : ℕ) (gs : List Gate) → Each (IsGate n) gs → Each (IsGate n) (tidied gs).left
tidied_gates n gs ok = steps_keep (Each (IsGate n)) (λ l u e. stepped_gates n (step_stepped l u) e) gs ok

-- no price rises that is made of the base price, the controls of other values, and an amount for the operator that C1 and C2 do not cost
pub tidied_price : (e : ℕ → ℕ) → e 1 ≡ 0 → e 2 ≡ 0 → (n v : ℕ) (gs : List Gate) → Each (IsGate n) gs
    → total (price_with e v) (tidied gs).left ≤ total (price_with e v) gs
tidied_price e c1 c2 n v gs ok =
    (steps_keep (λ l. Each (IsGate n) l × (total (price_with e v) l ≤ total (price_with e v) gs))
    (λ l u w. (stepped_gates n (step_stepped l u) w.0, omega (arith, w.1, stepped_price e c1 c2 n v (step_stepped l u) w.0))) gs (ok, omega arith)
    ).1

module _ (n : ℕ) (gs : List Gate) (ok : Cascade n gs) where
  -- it keeps what the cascade computes, at every pattern
  pub tidied_keeps : (p : ℕ) → ran (tidied gs).left p ≡ ran gs p
  tidied_keeps p =
      (steps_keep (λ l. Each (IsGate n) l × (ran l p ≡ ran gs p))
      (λ l u w. (stepped_gates n (step_stepped l u) w.0, stepped_keeps n (step_stepped l u) w.0 p ∙ w.1)) gs (ok.gates, refl)
      ).1

  -- and so the table
  pub tidied_table : table_of n (tidied gs).left ≡ table_of n gs
  unfolding table_for
  tidied_table = span_ext (ran (tidied gs).left) (ran gs) 0 (3 ^ n) (λ p le lt. tidied_keeps p)

  -- it does not raise the gate count
  pub tidied_count : length (tidied gs).left ≤ length gs
  tidied_count = steps_keep (λ l. length l ≤ length gs) (λ l u w. omega (arith, w, stepped_count (step_stepped l u))) gs (omega arith)

  -- nor the cost, whatever the global control value and the fitted set
  pub tidied_cost : (v s : ℕ) → cascade_price v s (tidied gs).left ≤ cascade_price v s gs
  tidied_cost v s =
      rw (← price_fitted v s gs, ← price_fitted v s (tidied gs).left)
      (tidied_price (λ o. cond (is_fitted s o) 0 1) (unfold is_fitted in refl) (unfold is_fitted in refl) n v gs ok.gates)

  -- the result is a cascade on the same lines
  pub tidied_cascade : Cascade n (tidied gs).left
  tidied_cascade = record { gates = tidied_gates n gs ok.gates; most = omega (arith, ok.most, tidied_count) }

-- it ends where no open pair fits a rule
pub tidied_ends : (gs : List Gate) (i j : ℕ) → i < j → j < length (tidied gs).left → is_open (tidied gs).left i j ≡ true
    → fits (gate (tidied gs).left i) (gate (tidied gs).left j) ≡ false
tidied_ends gs = nothing_fits (tidied gs).left (tidied_procedure gs).ended

-- its steps are the uses of rules of the written procedure
pub tidied_steps : (gs : List Gate) → Repetition gs (tidied gs)
tidied_steps gs = tidied_procedure gs

-- and at most the gates plus controls given
pub tidied_few : (gs : List Gate) → (tidied gs).steps ≤ gates_and_controls gs
tidied_few gs = (tidied_procedure gs).few

-- tidied again it stays, in no step
pub tidied_again : (gs : List Gate) → tidied (tidied gs).left ≡ record { left = (tidied gs).left; steps = 0 }
tidied_again gs = stays (tidied gs).left (tidied_procedure gs).ended
