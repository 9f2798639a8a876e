-- Tidying: open pairs, one step, its repetition, and the call.
use Rattle.std.specs.Prelude.{ℕ, zero, suc, ◌+◌, ◌-◌, ◌*◌, ◌≤◌, ◌<◌, ◌≡◌, Bool, true, false, cond, ◌&&◌, List, [], ◌∷◌, ◌++◌, ltb, length, get_or, set, replicate}
use Rattle.ranges.specs.Ranges.{every, first}
use Rattle.ranges.specs.Lists.{total}
use Rattle.card.specs.Card.{Answer, Answer.accepted, on_lines, after}
use Rattle.gates.specs.declared.Gate.{Gate}
use Rattle.gates.specs.Gates.{inverse, control_count}
use Rattle.cascades.specs.Cascades.{records, gates_of, bytes_of}
use Rattle.cascades.specs.Answers.{on_cascade}
use Rattle.rules.specs.Places.{may_change}
use Rattle.rules.specs.Rules.{fits, cancels, merges, loosened, retuned}

-- gate i of a list
abbrev pub gate : List Gate → ℕ → Gate
gate gs i = get_or gs i (record { operator = 0; target = 0; controls = 0 })

-- the pair i, j is open: gate i may change places with each gate strictly between
unfoldable pub is_open : List Gate → ℕ → ℕ → Bool
is_open gs i j = every (λ k. may_change (gate gs i) (gate gs k)) (i + 1) (j - (i + 1))

-- it is open, and a rule fits it
unfoldable pub fitting : List Gate → ℕ → ℕ → Bool
fitting gs i j = is_open gs i j && fits (gate gs i) (gate gs j)

-- the smallest j after i that fits with i, and the smallest i that has one; the length where there is none
unfoldable pub first_j : List Gate → ℕ → ℕ
first_j gs i = first (fitting gs i) (i + 1) (length gs - (i + 1))

unfoldable pub first_i : List Gate → ℕ
first_i gs = first (λ i. ltb (first_j gs i) (length gs)) 0 (length gs)

-- the list without element i
unfoldable pub without : List Gate → ℕ → List Gate
without [] i = []
without (g ∷ gs) zero = gs
without (g ∷ gs) (suc i) = g ∷ without gs i

-- the rule that fits, applied to the pair i, j: both go; gate i goes and gate j becomes the other C; both keep their places
unfoldable pub ruled : List Gate → ℕ → ℕ → List Gate
ruled gs i j =
    let g = gate gs i in
    let h = gate gs j in
    cond (cancels g h) (without (without gs j) i)
    (cond (merges g h) (without (set gs j (inverse h)) i)
    (set (set gs i (loosened g h)) j (retuned g h)))

-- there is a pair that fits; and one step, on the first
unfoldable pub untidy : List Gate → Bool
untidy gs = ltb (first_i gs) (length gs)

unfoldable pub step : List Gate → List Gate
step gs = ruled gs (first_i gs) (first_j gs (first_i gs))

-- the list after k steps
unfoldable pub after_steps : ℕ → List Gate → List Gate
after_steps zero gs = gs
after_steps (suc k) gs = after_steps k (step gs)

-- what is left, and how many steps it took
pub record Outcome : Type 0 where
  pub left : List Gate
  pub steps : ℕ

-- steps from the start, at most m of them, until none fits
unfoldable pub tidied_within : ℕ → List Gate → Outcome
tidied_within zero gs = record { left = gs; steps = 0 }
tidied_within (suc m) gs =
    elim (untidy gs) [
      | false ↦ record { left = gs; steps = 0 }
      | true ↦ let r = tidied_within m (step gs) in record { left = r.left; steps = suc r.steps }
    ]

-- gates and controls, which no step leaves as many
unfoldable pub gates_and_controls : List Gate → ℕ
gates_and_controls gs = total (λ g. suc (control_count g)) gs

unfoldable pub tidied : List Gate → Outcome
tidied gs = tidied_within (gates_and_controls gs) gs

-- the same without a bound: a step while there is a pair that fits, and the steps are those taken
pub record Repetition (gs : List Gate) (r : Outcome) : Type 0 where
  pub left_is : r.left ≡ after_steps r.steps gs
  pub used : (k : ℕ) → k < r.steps → untidy (after_steps k gs) ≡ true
  pub ended : untidy r.left ≡ false
  pub few : r.steps ≤ gates_and_controls gs

-- 1 6 7
unfoldable pub tidy_answer : ℕ → List ℕ → Answer
tidy_answer n b = let r = tidied (gates_of b) in on_lines n (on_cascade n b (accepted (length r.left ∷ r.steps ∷ [])))

-- the buffer afterwards: the gates left stand first, and the records freed at the end are zero bytes
unfoldable pub tidy_buffer : ℕ → List ℕ → List ℕ
tidy_buffer n b = let gs = (tidied (gates_of b)).left in after (tidy_answer n b) (bytes_of gs ++ replicate (8 * (records b - length gs)) 0) b
