-- One step of tidying on a cascade: it keeps what the cascade computes and that its gates are gates, and lowers what its rule lowers.
-- A step is read as a relation: gate i passes the gates between, the rule's two gates stand side by side, and what it leaves goes back (`Stepped`);
-- so nothing here speaks of an index but `step_stepped`, that the step of the definition is one. Assumes nothing.
use mathlib.Core.Path.{◌≡◌, refl, sym, ap, ◌∙◌, subst}
use mathlib.Core.Bool.{Bool, true, false, cond, ◌||◌}
use mathlib.Core.List.{List, [], ◌∷◌, ◌++◌, append_assoc}
use Prim.Native.Nat.{ℕ, suc, ◌+◌, ◌-◌, ◌<◌, ◌≤◌}
use native.Mathlib.Nat.{sub-zero}
use native.Mathlib.Omega.{arith}
use lib.Dec.{ltb}
use lib.ListN.{length, set, length-append}
use lib.Seq.{set_at}
use borrow.Author.Tests.{ltb-true}
use Rattle.ranges.specs.Ranges.{span}
use Rattle.ranges.specs.Lists.{Each, total, through}
use Rattle.ranges.proofs.Bools.{and_left, and_right}
use Rattle.ranges.proofs.Tests.{every_at}
use Rattle.ranges.proofs.Searches.{found}
use Rattle.ranges.proofs.Spans.{length_span, span_each}
use Rattle.ranges.proofs.Lists.{each_append, total_append, through_append}
use Rattle.ranges.proofs.Parts.{span_list, span_cut, each_parts, total_ones}
use Rattle.gates.specs.declared.Gate.{Gate}
use Rattle.gates.specs.Gates.{applied, inverse, IsGate, control_count}
use Rattle.cascades.specs.Cascades.{ran}
use Rattle.rules.specs.Places.{may_change}
use Rattle.rules.specs.Rules.{cancels, merges, reduces, fits, loosened, retuned}
use Rattle.rules.specs.Tidying.{gate, is_open, fitting, first_j, first_i, without, ruled, untidy, step, gates_and_controls}
use Rattle.rules.proofs.Places.{commute}
use Rattle.rules.proofs.Rules.{Ruled, ruled_gates, ruled_may, ruled_keeps}
use Rattle.rules.proofs.Rules.Ruled.{cancel, merge, reduce}
use Rattle.rules.proofs.Weights.{gates_fall, gates_and_controls_fall, price_with, price_falls}

-- the list gs with an open pair g, h, and the list gs' with what a rule leaves in its place
pub record Stepped (gs gs' : List Gate) : Type 0 where
  pub before : List Gate
  pub g : Gate
  pub between : List Gate
  pub h : Gate
  pub behind : List Gate
  pub a : List Gate
  pub b : List Gate
  pub from : gs ≡ before ++ ((g ∷ []) ++ (between ++ ((h ∷ []) ++ behind)))
  pub opened : Each (λ m. may_change g m ≡ true) between
  pub rule : Ruled g h a b
  pub to : gs' ≡ before ++ (a ++ (between ++ (b ++ behind)))

-- ---- five lists one after the other

module _ (u a v b w : List Gate) where
  ran_joined : (p : ℕ) → ran (u ++ (a ++ (v ++ (b ++ w)))) p ≡ ran w (ran b (ran v (ran a (ran u p))))
  ran_joined p = simp through_append

  total_joined : (f : Gate → ℕ) → total f (u ++ (a ++ (v ++ (b ++ w)))) ≡ total f u + (total f a + (total f v + (total f b + total f w)))
  total_joined f = simp total_append

  each_joined : (P : Gate → Type 0) → Each P u → Each P a → Each P v → Each P b → Each P w → Each P (u ++ (a ++ (v ++ (b ++ w))))
  each_joined P pu pa pv pb pw =
      each_append P u (a ++ (v ++ (b ++ w))) pu (each_append P a (v ++ (b ++ w)) pa (each_append P v (b ++ w) pv (each_append P b w pb pw)))

  each_apart : (P : Gate → Type 0) → Each P (u ++ (a ++ (v ++ (b ++ w)))) → Each P u × Each P a × Each P v × Each P b × Each P w
  each_apart P e =
      let e1 = each_parts P u (a ++ (v ++ (b ++ w))) e in
      let e2 = each_parts P a (v ++ (b ++ w)) e1.1 in
      let e3 = each_parts P v (b ++ w) e2.1 in
      let e4 = each_parts P b w e3.1 in
      (e1.0, e2.0, e3.0, e4.0, e4.1)

-- ---- gates that pass others

pass_one : (n : ℕ) (g : Gate) (ms : List Gate) → IsGate n g → Each (IsGate n) ms → Each (λ m. may_change g m ≡ true) ms
    → (p : ℕ) → ran ms (applied g p) ≡ applied g (ran ms p)
unfolding through
pass_one n g [] ok oks may p = refl
pass_one n g (m ∷ ms) ok oks may p = ap (ran ms) (commute n g m ok oks.0 may.0 p) ∙ pass_one n g ms ok oks.1 may.1 (applied m p)

pass_all : (n : ℕ) (a ms : List Gate) → Each (IsGate n) a → Each (IsGate n) ms → Each (λ x. Each (λ m. may_change x m ≡ true) ms) a
    → (p : ℕ) → ran ms (ran a p) ≡ ran a (ran ms p)
unfolding through
pass_all n [] ms oka okm may p = refl
pass_all n (x ∷ a) ms oka okm may p = pass_all n a ms oka.1 okm may.1 (applied x p) ∙ ap (ran a) (pass_one n x ms oka.0 okm may.0 p)

-- ---- what a step keeps

module _ (n : ℕ) {gs gs' : List Gate} (w : Stepped gs gs') (ok : Each (IsGate n) gs) where
  parts : Each (IsGate n) w.before × Each (IsGate n) (w.g ∷ []) × Each (IsGate n) w.between × Each (IsGate n) (w.h ∷ []) × Each (IsGate n) w.behind
  parts = each_apart w.before (w.g ∷ []) w.between (w.h ∷ []) w.behind (IsGate n) (subst (Each (IsGate n)) w.from ok)

  left : Each (IsGate n) w.a × Each (IsGate n) w.b
  left = ruled_gates n parts.1.0 parts.3.0 w.rule

  pub stepped_gates : Each (IsGate n) gs'
  stepped_gates =
      subst (Each (IsGate n)) (sym w.to)
      (each_joined w.before w.a w.between w.b w.behind (IsGate n) parts.0 left.0 parts.2 left.1 parts.4)

  pub stepped_keeps : (p : ℕ) → ran gs' p ≡ ran gs p
  unfolding through
  stepped_keeps p =
      ap (λ (l : List Gate). ran l p) w.to
      ∙ ran_joined w.before w.a w.between w.b w.behind p
      ∙ ap (λ (x : ℕ). ran w.behind (ran w.b x)) (pass_all n w.a w.between left.0 parts.2 (ruled_may w.between w.rule w.opened) (ran w.before p))
      ∙ ap (ran w.behind) (ruled_keeps n parts.1.0 parts.3.0 w.rule (ran w.between (ran w.before p)))
      ∙ ap (λ (x : ℕ). ran w.behind (applied w.h x)) (sym (pass_one n w.g w.between parts.1.0 parts.2 w.opened (ran w.before p)))
      ∙ sym (ap (λ (l : List Gate). ran l p) w.from ∙ ran_joined w.before (w.g ∷ []) w.between (w.h ∷ []) w.behind p)

-- ---- what a step lowers

-- by as much as the rule lowers it
lowered : (f : Gate → ℕ) (d : ℕ) {gs gs' : List Gate} (w : Stepped gs gs') → total f w.a + total f w.b + d ≤ f w.g + f w.h → total f gs' + d ≤ total f gs
unfolding total
lowered f d w le =
    omega
    (arith, ap (total f) w.from, ap (total f) w.to, total_joined w.before w.a w.between w.b w.behind f, total_joined w.before (w.g ∷ []) w.between (w.h ∷ []) w.behind f)

pub stepped_count : {gs gs' : List Gate} → Stepped gs gs' → length gs' ≤ length gs
stepped_count {gs} {gs'} w = omega (arith, lowered (λ x. 1) 0 w (omega (arith, gates_fall w.rule)), total_ones gs, total_ones gs')

pub stepped_gates_and_controls : {gs gs' : List Gate} → Stepped gs gs' → gates_and_controls gs' < gates_and_controls gs
unfolding gates_and_controls
stepped_gates_and_controls w = omega (arith, lowered (λ x. suc (control_count x)) 1 w (gates_and_controls_fall w.rule))

pub stepped_price : (e : ℕ → ℕ) → e 1 ≡ 0 → e 2 ≡ 0 → (n v : ℕ) {gs gs' : List Gate} → Stepped gs gs' → Each (IsGate n) gs
    → total (price_with e v) gs' ≤ total (price_with e v) gs
stepped_price e c1 c2 n v w ok =
    let q = parts n w ok in
    omega (arith, lowered (price_with e v) 0 w (omega (arith, price_falls e c1 c2 n v q.1.0 q.3.0 w.rule)))

-- ---- the step of the definition is one

without_at : (u : List Gate) (x : Gate) (v : List Gate) (i : ℕ) → length u ≡ i → without (u ++ x ∷ v) i ≡ u ++ v
unfolding without
without_at u x v i e = subst (λ (k : ℕ). without (u ++ x ∷ v) k ≡ u ++ v) e (go u)
  where
    go : (u : List Gate) → without (u ++ x ∷ v) (length u) ≡ u ++ v
    go [] = refl
    go (y ∷ u) = ap (λ (l : List Gate). y ∷ l) (go u)

-- a list with the elements g at place i and h at place j
module _ (u v w : List Gate) (g h : Gate) (i j : ℕ) (at_i : length u ≡ i) (at_j : length (u ++ g ∷ v) ≡ j) where
  grouped : (x y : Gate) → u ++ x ∷ (v ++ y ∷ w) ≡ (u ++ x ∷ v) ++ y ∷ w
  grouped x y = sym (append_assoc u (x ∷ v) (y ∷ w))

  set_second : (y : Gate) → set (u ++ g ∷ (v ++ h ∷ w)) j y ≡ u ++ g ∷ (v ++ y ∷ w)
  set_second y = ap (λ (l : List Gate). set l j y) (grouped g h) ∙ set_at (u ++ g ∷ v) h w y j at_j ∙ sym (grouped g y)

  both_gone : without (without (u ++ g ∷ (v ++ h ∷ w)) j) i ≡ u ++ (v ++ w)
  both_gone =
      ap (λ (l : List Gate). without (without l j) i) (grouped g h)
      ∙ ap (λ (l : List Gate). without l i) (without_at (u ++ g ∷ v) h w j at_j ∙ append_assoc u (g ∷ v) w)
      ∙ without_at u g (v ++ w) i at_i

  one_gone : (y : Gate) → without (set (u ++ g ∷ (v ++ h ∷ w)) j y) i ≡ u ++ (v ++ y ∷ w)
  one_gone y = ap (λ (l : List Gate). without l i) (set_second y) ∙ without_at u g (v ++ y ∷ w) i at_i

-- gate i has no part in where gate j stands
both_set : (u v w : List Gate) (g h x y : Gate) (i j : ℕ) → length u ≡ i → length (u ++ g ∷ v) ≡ j → set (set (u ++ g ∷ (v ++ h ∷ w)) i x) j y ≡ u ++ x ∷ (v ++ y ∷ w)
both_set u v w g h x y i j at_i at_j =
    ap (λ (l : List Gate). set l j y) (set_at u g (v ++ h ∷ w) x i at_i)
    ∙ set_second u v w x h i j at_i (length-append u (x ∷ v) ∙ sym (length-append u (g ∷ v)) ∙ at_j) y

module _ (gs : List Gate) (i j : ℕ) (ij : i < j) (inside : j < length gs) where
  before : List Gate
  before = span (gate gs) 0 (i - 0)

  between : List Gate
  between = span (gate gs) (i + 1) (j - (i + 1))

  behind : List Gate
  behind = span (gate gs) (j + 1) (length gs - (j + 1))

  whole : gs ≡ before ++ gate gs i ∷ (between ++ gate gs j ∷ behind)
  unfolding before between behind
  whole =
      sym (span_list gs _)
      ∙ ap (span (gate gs) 0) (sym (sub-zero (length gs)))
      ∙ span_cut (gate gs) i 0 i (length gs) (omega arith) (omega arith)
      ∙ ap (λ (l : List Gate). span (gate gs) 0 (i - 0) ++ gate gs i ∷ l) (span_cut (gate gs) (j - (i + 1)) (i + 1) j (length gs) (omega arith) inside)

  at_i : length before ≡ i
  unfolding before
  at_i = omega (arith, length_span (gate gs) 0 (i - 0))

  at_j : length (before ++ gate gs i ∷ between) ≡ j
  unfolding before between
  at_j = omega (arith, length-append before (gate gs i ∷ between), length_span (gate gs) 0 (i - 0), length_span (gate gs) (i + 1) (j - (i + 1)))

  all_pass : is_open gs i j ≡ true → Each (λ m. may_change (gate gs i) m ≡ true) between
  unfolding is_open between
  all_pass o = span_each (λ m. may_change (gate gs i) m ≡ true) (gate gs) (i + 1) (j - (i + 1)) (every_at (λ k. may_change (gate gs i) (gate gs k)) (i + 1) (j - (i + 1)) o)

  pub ruled_stepped : is_open gs i j ≡ true → fits (gate gs i) (gate gs j) ≡ true → Stepped gs (ruled gs i j)
  unfolding ruled fits
  ruled_stepped o f = go (cancels (gate gs i) (gate gs j)) refl (merges (gate gs i) (gate gs j)) refl f
    where
      g : Gate
      g = gate gs i

      h : Gate
      h = gate gs j

      made : (a b : List Gate) → Ruled (gate gs i) (gate gs j) a b → (to : List Gate) → to ≡ before ++ (a ++ (between ++ (b ++ behind))) → Stepped gs to
      made a b rule to e =
          record {
            before = before;
            g = gate gs i;
            between = between;
            h = gate gs j;
            behind = behind;
            a = a;
            b = b;
            from = whole;
            opened = all_pass o;
            rule = rule;
            to = e;
          }

      go : (x : Bool) → cancels (gate gs i) (gate gs j) ≡ x → (y : Bool) → merges (gate gs i) (gate gs j) ≡ y → (x || y || reduces (gate gs i) (gate gs j)) ≡ true
          → Stepped gs
          (cond x (without (without gs j) i)
          (cond y (without (set gs j (inverse (gate gs j))) i)
          (set (set gs i (loosened (gate gs i) (gate gs j))) j (retuned (gate gs i) (gate gs j)))))
      go true ex y ey t =
          made [] [] (cancel ex) _
          (ap (λ (l : List Gate). without (without l j) i) whole ∙ both_gone before between behind g h i j at_i at_j)
      go false ex true ey t =
          made [] (inverse h ∷ []) (merge ey) _
          (ap (λ (l : List Gate). without (set l j (inverse h)) i) whole ∙ one_gone before between behind g h i j at_i at_j (inverse h))
      go false ex false ey t =
          made (loosened g h ∷ []) (retuned g h ∷ []) (reduce t) _
          (ap (λ (l : List Gate). set (set l i (loosened g h)) j (retuned g h)) whole ∙ both_set before between behind g h (loosened g h) (retuned g h) i j at_i at_j)

-- the first pair of a list that has one
pub record FirstPair (gs : List Gate) (i j : ℕ) : Type 0 where
  pub ascending : i < j
  pub inside : j < length gs
  pub opened : is_open gs i j ≡ true
  pub rule : fits (gate gs i) (gate gs j) ≡ true

pub first_pair : (gs : List Gate) → untidy gs ≡ true → FirstPair gs (first_i gs) (first_j gs (first_i gs))
unfolding untidy first_i first_j fitting
first_pair gs u =
    let row : ℕ → Bool = λ i. ltb (first_j gs i) (length gs) in
    let i : ℕ = first_i gs in
    let j : ℕ = first_j gs i in
    let i_in : i < length gs = ltb-true i (length gs) u in
    let j_in : j < length gs = ltb-true j (length gs) ((found row 0 (length gs)).hit (omega arith)) in
    let w = found (fitting gs i) (i + 1) (length gs - (i + 1)) in
    let hit : fitting gs i j ≡ true = w.hit (omega arith) in
    record {
      ascending = omega (arith, w.from);
      inside = j_in;
      opened = and_left (is_open gs i j) (fits (gate gs i) (gate gs j)) hit;
      rule = and_right (is_open gs i j) (fits (gate gs i) (gate gs j)) hit;
    }

pub step_stepped : (gs : List Gate) → untidy gs ≡ true → Stepped gs (step gs)
unfolding step
step_stepped gs u =
    let w = first_pair gs u in
    ruled_stepped gs (first_i gs) (first_j gs (first_i gs)) w.ascending w.inside w.opened w.rule
