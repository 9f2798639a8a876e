-- Steps repeated until none fits: gates plus controls fall with each step, so the repetition ends within as many steps, and ends where nothing fits.
-- `Repetition` says it without the bound that the definition counts down, and has one answer only. Assumes nothing.
use mathlib.Core.Path.{◌≡◌, refl, sym, ap, ◌∙◌, subst}
use mathlib.Core.Logic.{⊎_elim}
use mathlib.Core.Bool.{Bool, true, false}
use mathlib.Core.List.{List}
use Prim.Native.Nat.{ℕ, zero, suc, ◌+◌, ◌-◌, ◌<◌, ◌≤◌}
use native.Mathlib.Numerals.{add-one}
use native.Mathlib.Omega.{arith}
use lib.Dec.{ltb}
use lib.ListN.{length}
use borrow.Author.Tests.{ltb-true, ltb-false}
use Rattle.ranges.proofs.Bools.{decide, clash}
use Rattle.ranges.proofs.Searches.{found}
use Rattle.gates.specs.declared.Gate.{Gate}
use Rattle.rules.specs.Rules.{fits}
use Rattle.rules.specs.Tidying.{gate, is_open, fitting, first_j, first_i, untidy, step, after_steps, Outcome, Repetition, tidied_within, gates_and_controls, tidied}
use Rattle.rules.proofs.TidySteps.{stepped_gates_and_controls, step_stepped}

-- ---- one look at the list

-- where no pair was found, none fits
pub nothing_fits : (gs : List Gate) → untidy gs ≡ false → (i j : ℕ) → i < j → j < length gs → is_open gs i j ≡ true → fits (gate gs i) (gate gs j) ≡ false
unfolding untidy first_i first_j fitting
nothing_fits gs u i j ij inside o =
    let row : ℕ → Bool = λ i. ltb (first_j gs i) (length gs) in
    let no_row : row i ≡ false = (found row 0 (length gs)).before i (omega arith) (omega (arith, ltb-false (first_i gs) (length gs) u)) in
    let shut : fitting gs i j ≡ false =
    (found (fitting gs i) (i + 1) (length gs - (i + 1))).before j (omega arith) (omega (arith, ltb-false (first_j gs i) (length gs) no_row)) in
    rw o at shut

stops : (m : ℕ) (gs : List Gate) → untidy gs ≡ false → tidied_within m gs ≡ record { left = gs; steps = 0 }
unfolding tidied_within
stops zero gs u = refl
stops (suc m) gs u = rw (u, tidied_within)

goes_on : (m : ℕ) (gs : List Gate) → untidy gs ≡ true
    → tidied_within (suc m) gs ≡ record { left = (tidied_within m (step gs)).left; steps = suc (tidied_within m (step gs)).steps }
unfolding tidied_within
goes_on m gs u = rw (u, tidied_within)

-- ---- all of them

pub after_none : (gs : List Gate) → after_steps 0 gs ≡ gs
unfolding after_steps
after_none gs = refl

pub after_one_more : (k : ℕ) (gs : List Gate) → after_steps (k + 1) gs ≡ step (after_steps k gs)
unfolding after_steps
after_one_more k gs = ap (λ (m : ℕ). after_steps m gs) (add-one k) ∙ go k gs
  where
    go : (k : ℕ) (gs : List Gate) → after_steps (suc k) gs ≡ step (after_steps k gs)
    go zero gs = refl
    go (suc k) gs = go k (step gs)

none_taken : (gs : List Gate) → untidy gs ≡ false → Repetition gs (record { left = gs; steps = 0 })
none_taken gs u = record { left_is = sym (after_none gs); used = λ k lt. absurd (omega arith); ended = u; few = omega arith }

one_taken : (gs : List Gate) (r : Outcome) → untidy gs ≡ true → Repetition (step gs) r → Repetition gs (record { left = r.left; steps = suc r.steps })
unfolding after_steps
one_taken gs r u w =
    record {
      left_is = w.left_is;
      used = uses;
      ended = w.ended;
      few = omega (arith, w.few, stepped_gates_and_controls (step_stepped gs u));
    }
  where
    uses : (k : ℕ) → k < suc r.steps → untidy (after_steps k gs) ≡ true
    uses zero lt = u
    uses (suc k) lt = w.used k (omega arith)

follows : (m : ℕ) (gs : List Gate) → gates_and_controls gs ≤ m → Repetition gs (tidied_within m gs)
follows zero gs le =
    ⊎_elim (λ (u : untidy gs ≡ true). absurd (omega (arith, stepped_gates_and_controls (step_stepped gs u))))
    (λ (u : untidy gs ≡ false). subst (Repetition gs) (sym (stops zero gs u)) (none_taken gs u)) (decide (untidy gs))
follows (suc m) gs le =
    ⊎_elim
    (λ (u : untidy gs ≡ true).
    subst (Repetition gs) (sym (goes_on m gs u)) (one_taken gs (tidied_within m (step gs)) u (follows m (step gs) (omega (arith, stepped_gates_and_controls (step_stepped gs u))))))
    (λ (u : untidy gs ≡ false). subst (Repetition gs) (sym (stops (suc m) gs u)) (none_taken gs u)) (decide (untidy gs))

-- what a step keeps, all of them keep
pub steps_keep : (P : List Gate → Type 0) → ((gs : List Gate) → untidy gs ≡ true → P gs → P (step gs)) → (gs : List Gate) → P gs → P (tidied gs).left
unfolding tidied tidied_within
steps_keep P keep gs p = go (gates_and_controls gs) gs p
  where
    go : (m : ℕ) (gs : List Gate) → P gs → P (tidied_within m gs).left
    go zero gs p = p
    go (suc m) gs p =
        ⊎_elim (λ (u : untidy gs ≡ true). subst (λ (r : Outcome). P r.left) (sym (goes_on m gs u)) (go m (step gs) (keep gs u p)))
        (λ (u : untidy gs ≡ false). subst (λ (r : Outcome). P r.left) (sym (stops (suc m) gs u)) p) (decide (untidy gs))

-- a list where nothing fits stays, in no step
pub stays : (gs : List Gate) → untidy gs ≡ false → tidied gs ≡ record { left = gs; steps = 0 }
unfolding tidied
stays gs u = stops (gates_and_controls gs) gs u

-- the procedure has one answer
pub one_answer : (gs : List Gate) (r s : Outcome) → Repetition gs r → Repetition gs s → r ≡ s
one_answer gs r s a b =
    let same : r.steps ≡ s.steps = omega (arith, not_before r s a b, not_before s r b a) in
    let lists : r.left ≡ s.left = a.left_is ∙ ap (λ (k : ℕ). after_steps k gs) same ∙ sym b.left_is in
    λ i. record { left = lists i; steps = same i }
  where
    not_before : (r s : Outcome) → Repetition gs r → Repetition gs s → s.steps ≤ r.steps
    not_before r s a b =
        ⊎_elim (λ (l : ltb r.steps s.steps ≡ true). clash (untidy r.left) (ap untidy a.left_is ∙ b.used r.steps (ltb-true r.steps s.steps l)) a.ended)
        (λ (l : ltb r.steps s.steps ≡ false). ltb-false r.steps s.steps l) (decide (ltb r.steps s.steps))

-- tidying is the written procedure
pub tidied_procedure : (gs : List Gate) → Repetition gs (tidied gs)
unfolding tidied
tidied_procedure gs = follows (gates_and_controls gs) gs (omega arith)
