-- The rules on two gates that stand next to each other: at most one fits, and what it leaves computes the same on every pattern.
-- The two gates have one target, so their operators compose (`on_one_target`); which of the old and the new gates fire is read off the digit of the
-- line on which the controls differ. Assumes nothing.
use mathlib.Core.Path.{◌≡◌, refl, sym, ap, ◌∙◌}
use mathlib.Core.Logic.{◌⊎◌, ⊎_elim}
use mathlib.Core.Bool.{Bool, true, false, not, ◌&&◌, ◌||◌, beq}
use mathlib.Core.List.{List, [], ◌∷◌}
use Prim.Native.Nat.{ℕ, ◌-◌, ◌<◌}
use native.Mathlib.Decide.{ℕ_discrete}
use native.Mathlib.Omega.{arith}
use lib.Dec.{eqb}
use borrow.Author.Tests.{eqb-true, eqb-false, eq-eqb, ne_eqb, not-true, not-false}
use Rattle.ranges.specs.Lists.{Each, through}
use Rattle.ranges.proofs.Bools.{and_left, and_right, or_left, or_right, decide}
use Rattle.ranges.proofs.Tests.{every_below, every_ext, every_fails}
use Rattle.ranges.proofs.Lists.{each_imp}
use Rattle.ranges.proofs.Triples.{beq_same}
use Rattle.ranges.proofs.Tallies.{tally_none, tally_one}
use Rattle.digits.specs.Digits.{digit, put}
use Rattle.digits.proofs.ThreeCases.{three}
use Rattle.digits.proofs.Digits.{digit_lt, digit_put_same, digit_put_other, put_same, put_lt}
use Rattle.gates.specs.declared.Gate.{Gate}
use Rattle.gates.specs.Gates.{act, inverse_op, control, holds, fires_on, applied, inverse, IsGate}
use Rattle.gates.specs.Inner.Firing.{fires}
use Rattle.gates.proofs.Operators.{act_inverse}
use Rattle.gates.proofs.Gates.{holds_none, holds_equal, inverse_gate}
use Rattle.cascades.specs.Cascades.{ran}
use Rattle.rules.specs.Places.{is_c, upsets, blocks, clashes, may_change}
use Rattle.rules.specs.Rules.{same_lines, differ_at, differences, line_of, cancels, merges, reduces, with_control, loosened, retuned}
use Rattle.rules.proofs.Places.{turned, applied_puts, on_one_target}

-- ---- what the tests say

-- an operator that is C1 or C2
is_c_lem : (o : ℕ) → is_c o ≡ true → (o ≡ 1) ⊎ (o ≡ 2)
unfolding is_c
is_c_lem o e =
    ⊎_elim (λ (a : eqb o 1 ≡ true). ◌⊎◌.inl (eqb-true o 1 a)) (λ (a : eqb o 1 ≡ false). ◌⊎◌.inr (eqb-true o 2 (rw a at e))) (decide (eqb o 1))

-- a C taken twice is its inverse, and is not its own inverse
c_twice : (o x : ℕ) → x < 3 → is_c o ≡ true → act o (act o x) ≡ act (inverse_op o) x
unfolding act inverse_op
c_twice o x lt c =
    ⊎_elim (λ (e : o ≡ 1). rw e (three (λ x. act 1 (act 1 x) ≡ act 2 x) refl refl refl x lt))
    (λ (e : o ≡ 2). rw e (three (λ x. act 2 (act 2 x) ≡ act 1 x) refl refl refl x lt)) (is_c_lem o c)

c_not_own : (o : ℕ) → is_c o ≡ true → o ≡ inverse_op o → ⊥
unfolding inverse_op
c_not_own o c e =
    ⊎_elim (λ (q : o ≡ 1). let z : 1 ≡ inverse_op 1 = rw q at e in omega arith) (λ (q : o ≡ 2). let z : 2 ≡ inverse_op 2 = rw q at e in omega arith) (is_c_lem o c)

module _ (g h : Gate) where
  pub same_target : same_lines g h ≡ true → g.target ≡ h.target
  unfolding same_lines
  same_target e = eqb-true g.target h.target (and_left (eqb g.target h.target) _ e)

  pub both_or_none : same_lines g h ≡ true → (k : ℕ) → k < 6 → eqb (control g k) 3 ≡ eqb (control h k) 3
  unfolding same_lines
  both_or_none e k lt =
      beq_same (eqb (control g k) 3) (eqb (control h k) 3)
      (every_below (λ k. beq (eqb (control g k) 3) (eqb (control h k) 3)) 6 (and_right (eqb g.target h.target) _ e) k lt)

  equal_there : (k : ℕ) → differ_at g h k ≡ false → control g k ≡ control h k
  unfolding differ_at
  equal_there k e = eqb-true (control g k) (control h k) (not-false (eqb (control g k) (control h k)) e)

  unequal_there : (k : ℕ) → differ_at g h k ≡ true → control g k ≡ control h k → ⊥
  unfolding differ_at
  unequal_there k e = eqb-false (control g k) (control h k) (not-true (eqb (control g k) (control h k)) e)

  equal_controls : differences g h ≡ 0 → (k : ℕ) → k < 6 → control g k ≡ control h k
  unfolding differences
  equal_controls e k lt = equal_there k (tally_none (differ_at g h) 0 6 e k (omega arith) (omega arith))

  -- two gates with the same controls and target, which cancel or merge
  pub record Twins : Type 0 where
    pub target : g.target ≡ h.target
    pub controls : (k : ℕ) → k < 6 → control g k ≡ control h k

  twins : (same_lines g h && eqb (differences g h) 0) ≡ true → Twins
  twins e =
      record {
        target = same_target (and_left (same_lines g h) (eqb (differences g h) 0) e);
        controls = equal_controls (eqb-true (differences g h) 0 (and_right (same_lines g h) (eqb (differences g h) 0) e));
      }

  cancel_twins : cancels g h ≡ true → Twins × (h.operator ≡ inverse_op g.operator)
  unfolding cancels
  cancel_twins e =
      (twins (and_left (same_lines g h && eqb (differences g h) 0) _ e), eqb-true h.operator (inverse_op g.operator) (and_right (same_lines g h && eqb (differences g h) 0) _ e))

  merge_twins : merges g h ≡ true → Twins × (is_c g.operator ≡ true) × (g.operator ≡ h.operator)
  unfolding merges
  merge_twins e =
      let front = and_left (same_lines g h && eqb (differences g h) 0 && is_c g.operator) _ e in (
        twins (and_left (same_lines g h && eqb (differences g h) 0) _ front),
        and_right (same_lines g h && eqb (differences g h) 0) _ front,
        eqb-true g.operator h.operator (and_right (same_lines g h && eqb (differences g h) 0 && is_c g.operator) _ e),
      )

  -- two gates that control reduction fits: they differ on one line, and have a control there each
  pub record Reduction : Type 0 where
    pub target : g.target ≡ h.target
    pub operator : g.operator ≡ h.operator
    pub on : line_of g h < 6
    pub differ : control g (line_of g h) ≡ control h (line_of g h) → ⊥
    pub first_lt : control g (line_of g h) < 3
    pub second_lt : control h (line_of g h) < 3
    pub others : (k : ℕ) → k < 6 → (k ≡ line_of g h → ⊥) → control g k ≡ control h k

  pub reduction : reduces g h ≡ true → Reduction
  unfolding reduces differences line_of
  reduction e =
      let front = and_left (same_lines g h && eqb (differences g h) 1) _ e in
      let lines = and_left (same_lines g h) _ front in
      let a = tally_one (differ_at g h) 0 6 (eqb-true (differences g h) 1 (and_right (same_lines g h) _ front)) in
      let k : ℕ = line_of g h in
      let on : k < 6 = omega (arith, a.within) in
      let ne : control g k ≡ control h k → ⊥ = unequal_there k a.hit in
      let both = both_or_none lines k on in
      let s3 : control g k ≡ 3 → ⊥ = λ q. ne (q ∙ sym (eqb-true (control h k) 3 (sym both ∙ eq-eqb (control g k) 3 q))) in
      let t3 : control h k ≡ 3 → ⊥ = λ q. ne (eqb-true (control g k) 3 (both ∙ eq-eqb (control h k) 3 q) ∙ sym q) in
      record {
        target = same_target lines;
        operator = eqb-true g.operator h.operator (and_right (same_lines g h && eqb (differences g h) 1) _ e);
        on = on;
        differ = ne;
        first_lt = small (control g k) (digit_lt 4 k g.controls (omega arith)) s3;
        second_lt = small (control h k) (digit_lt 4 k h.controls (omega arith)) t3;
        others = λ j lt n. equal_there j (a.rest j (omega arith) (omega arith) n);
      }
    where
      small : (c : ℕ) → c < 4 → (c ≡ 3 → ⊥) → c < 3
      small c lt ne = omega arith

-- ---- at most one rule fits

pub record AtMostOne (g h : Gate) : Type 0 where
  pub cancel_alone : cancels g h ≡ true → (merges g h ≡ false) × (reduces g h ≡ false)
  pub merge_alone : merges g h ≡ true → (cancels g h ≡ false) × (reduces g h ≡ false)
  pub reduce_alone : reduces g h ≡ true → (cancels g h ≡ false) × (merges g h ≡ false)

not_both : (a b : Bool) → (a ≡ true → b ≡ true → ⊥) → a ≡ true → b ≡ false
not_both a true n e = absurd (n e refl)
not_both a false n e = refl

pub at_most_one : (g h : Gate) → AtMostOne g h
at_most_one g h =
    record {
      cancel_alone = λ c. (not_both (cancels g h) (merges g h) cancel_merge c, not_both (cancels g h) (reduces g h) cancel_reduce c);
      merge_alone = λ m. (not_both (merges g h) (cancels g h) (λ x y. cancel_merge y x) m, not_both (merges g h) (reduces g h) merge_reduce m);
      reduce_alone = λ r. (not_both (reduces g h) (cancels g h) (λ x y. cancel_reduce y x) r, not_both (reduces g h) (merges g h) (λ x y. merge_reduce y x) r);
    }
  where
    apart : Twins g h → reduces g h ≡ true → ⊥
    apart t r = let d = reduction g h r in d.differ (t.controls (line_of g h) d.on)

    cancel_merge : cancels g h ≡ true → merges g h ≡ true → ⊥
    cancel_merge c m = let w = merge_twins g h m in c_not_own g.operator w.1 (w.2 ∙ (cancel_twins g h c).1)

    cancel_reduce : cancels g h ≡ true → reduces g h ≡ true → ⊥
    cancel_reduce c = apart (cancel_twins g h c).0

    merge_reduce : merges g h ≡ true → reduces g h ≡ true → ⊥
    merge_reduce m = apart (merge_twins g h m).0

-- ---- what a rule leaves

-- the rule puts the gates a in the place of gate i and the gates b in the place of gate j
pub data Ruled (g h : Gate) : List Gate → List Gate → Type 0 where
  cancel : cancels g h ≡ true → Ruled g h [] []
  merge : merges g h ≡ true → Ruled g h [] (inverse h ∷ [])
  reduce : reduces g h ≡ true → Ruled g h (loosened g h ∷ []) (retuned g h ∷ [])

module _ (g : Gate) (k v : ℕ) (lt : v < 4) where
  with_here : control (with_control g k v) k ≡ v
  unfolding with_control
  with_here = digit_put_same 4 k g.controls v lt

  with_other : (j : ℕ) → (j ≡ k → ⊥) → control (with_control g k v) j ≡ control g j
  unfolding with_control
  with_other j ne = digit_put_other 4 j k g.controls v lt ne

  -- a control of a gate replaced, or taken off
  with_gate : (n : ℕ) → IsGate n g → k < 6 → (control g k ≡ 3 → v ≡ 3) → IsGate n (with_control g k v)
  unfolding with_control
  with_gate n ok lk keep =
      record {
        op_low = ok.op_low;
        op_high = ok.op_high;
        on_line = ok.on_line;
        own = still_none g.target ok.own;
        beyond = λ j le l. still_none j (ok.beyond j le l);
        packed = put_lt 4 6 k g.controls v ok.packed lk lt;
      }
    where
      still_none : (j : ℕ) → control g j ≡ 3 → control (with_control g k v) j ≡ 3
      still_none j e = go (ℕ_discrete j k)
        where
          go : Dec (j ≡ k) → control (with_control g k v) j ≡ 3
          go (yes q) = ap (control (with_control g k v)) q ∙ with_here ∙ keep (ap (control g) (sym q) ∙ e)
          go (no ne) = with_other j ne ∙ e

-- the third value
abbrev pub third : Gate → Gate → ℕ
third g h = 3 - control g (line_of g h) - control h (line_of g h)

module _ (g h : Gate) (r : Reduction g h) where
  pub third_lt : third g h < 3
  third_lt = omega (arith, r.differ, r.first_lt, r.second_lt)

  pub loosened_here : control (loosened g h) (line_of g h) ≡ 3
  unfolding loosened
  loosened_here = with_here g (line_of g h) 3 (omega arith)

  pub loosened_other : (k : ℕ) → (k ≡ line_of g h → ⊥) → control (loosened g h) k ≡ control g k
  unfolding loosened
  loosened_other k ne = with_other g (line_of g h) 3 (omega arith) k ne

  pub retuned_here : control (retuned g h) (line_of g h) ≡ third g h
  unfolding retuned inverse
  retuned_here = with_here h (line_of g h) (third g h) (omega (arith, third_lt))

  pub retuned_other : (k : ℕ) → (k ≡ line_of g h → ⊥) → control (retuned g h) k ≡ control h k
  unfolding retuned inverse
  retuned_other k ne = with_other h (line_of g h) (third g h) (omega (arith, third_lt)) k ne

  pub loosened_gate : (n : ℕ) → IsGate n g → IsGate n (loosened g h)
  unfolding loosened
  loosened_gate n ok = with_gate g (line_of g h) 3 (omega arith) n ok r.on (λ e. refl)

  pub retuned_gate : (n : ℕ) → IsGate n h → IsGate n (retuned g h)
  unfolding retuned
  retuned_gate n ok =
      inverse_gate n (with_control h (line_of g h) (third g h))
      (with_gate h (line_of g h) (third g h) (omega (arith, third_lt)) n ok r.on (λ e. absurd (omega (arith, r.second_lt))))

pub ruled_gates : (n : ℕ) {g h : Gate} {a b : List Gate} → IsGate n g → IsGate n h → Ruled g h a b → Each (IsGate n) a × Each (IsGate n) b
ruled_gates n okg okh (cancel e) = (tt, tt)
ruled_gates n {h = h} okg okh (merge e) = (tt, (inverse_gate n h okh, tt))
ruled_gates n {g = g} {h = h} okg okh (reduce e) = let r = reduction g h e in ((loosened_gate g h r n okg, tt), (retuned_gate g h r n okh, tt))

-- what is left in the place of gate i may change places with each that gate i may
loosened_may : (g h m : Gate) → Reduction g h → may_change g m ≡ true → may_change (loosened g h) m ≡ true
unfolding may_change clashes blocks loosened with_control
loosened_may g h m r e = ap not (neither (clashes g m || blocks g m) (blocks m (loosened g h)) (or_left (clashes g m || blocks g m) (blocks m g) no_reason) (go (ℕ_discrete m.target (line_of g h))))
  where
    no_reason : (clashes g m || blocks g m || blocks m g) ≡ false
    no_reason = not-true (clashes g m || blocks g m || blocks m g) e

    neither : (a b : Bool) → a ≡ false → b ≡ false → (a || b) ≡ false
    neither a b p q = rw (p, q)

    upset_by : ℕ → Bool
    upset_by c = not (eqb c 3) && upsets m.operator c

    go : Dec (m.target ≡ line_of g h) → blocks m (loosened g h) ≡ false
    go (yes q) = ap upset_by (ap (control (loosened g h)) q ∙ loosened_here g h r)
    go (no ne) = ap upset_by (loosened_other g h r m.target ne) ∙ or_right (clashes g m || blocks g m) (blocks m g) no_reason

pub ruled_may : {g h : Gate} {a b : List Gate} (ms : List Gate) → Ruled g h a b → Each (λ m. may_change g m ≡ true) ms
    → Each (λ x. Each (λ m. may_change x m ≡ true) ms) a
ruled_may ms (cancel e) may = tt
ruled_may ms (merge e) may = tt
ruled_may {g} {h} ms (reduce e) may =
    (each_imp (λ m. may_change g m ≡ true) (λ m. may_change (loosened g h) m ≡ true) (λ m. loosened_may g h m (reduction g h e)) ms may, tt)

-- ---- what fires

holds_not : (c x : ℕ) → c < 3 → (c ≡ x → ⊥) → holds c x ≡ false
unfolding holds
holds_not c x lt ne = rw (ne_eqb c 3 (omega arith), ne_eqb c x ne)

fires_same : (g h : Gate) (p : ℕ) → ((k : ℕ) → k < 6 → holds (control g k) (digit 3 k p) ≡ holds (control h k) (digit 3 k p)) → fires g p ≡ fires h p
unfolding fires_on
fires_same g h p e = every_ext (λ k. holds (control g k) (digit 3 k p)) (λ k. holds (control h k) (digit 3 k p)) 0 6 (λ k le lt. e k (omega arith))

fires_not : (g : Gate) (p k : ℕ) → k < 6 → control g k < 3 → (control g k ≡ digit 3 k p → ⊥) → fires g p ≡ false
unfolding fires_on
fires_not g p k lt small ne = every_fails (λ k. holds (control g k) (digit 3 k p)) 6 k lt (holds_not (control g k) (digit 3 k p) small ne)

-- a gate fires as one that has no control on line k and is like it elsewhere, where line k holds its value
fires_without : (g l : Gate) (p k : ℕ) → control g k ≡ digit 3 k p → control l k ≡ 3 → ((j : ℕ) → j < 6 → (j ≡ k → ⊥) → control g j ≡ control l j)
    → fires g p ≡ fires l p
fires_without g l p k held none others = fires_same g l p (λ j lt. go j lt (ℕ_discrete j k))
  where
    go : (j : ℕ) → j < 6 → Dec (j ≡ k) → holds (control g j) (digit 3 j p) ≡ holds (control l j) (digit 3 j p)
    go j lt (yes q) =
        holds_equal (control g j) (digit 3 j p) (ap (control g) q ∙ held ∙ ap (λ (i : ℕ). digit 3 i p) (sym q))
        ∙ sym (ap (λ (c : ℕ). holds c (digit 3 j p)) (ap (control l) q ∙ none) ∙ holds_none (digit 3 j p))
    go j lt (no ne) = ap (λ (c : ℕ). holds c (digit 3 j p)) (others j lt ne)

-- ---- a rule keeps what the two gates compute

module _ (n : ℕ) (g h : Gate) (okg : IsGate n g) (okh : IsGate n h) (p : ℕ) where
  x_lt : digit 3 h.target p < 3
  x_lt = digit_lt 3 h.target p (omega arith)

  twice_undone : (b : Bool) → turned b (inverse_op g.operator) (turned b g.operator (digit 3 h.target p)) ≡ digit 3 h.target p
  twice_undone true = act_inverse g.operator (digit 3 h.target p) okg.op_low okg.op_high x_lt
  twice_undone false = refl

  one_after_other : g.target ≡ h.target
      → applied h (applied g p) ≡ put 3 h.target p (turned (fires h p) h.operator (turned (fires g p) g.operator (digit 3 h.target p)))
  one_after_other e = on_one_target g h h.target p e refl okh.own

  twins_fire : Twins g h → fires g p ≡ fires h p
  twins_fire w = fires_same g h p (λ k lt. ap (λ (c : ℕ). holds c (digit 3 k p)) (w.controls k lt))

  cancel_keeps : cancels g h ≡ true → p ≡ applied h (applied g p)
  cancel_keeps e =
      let w = cancel_twins g h e in
      sym
      (one_after_other w.0.target
      ∙ rw (w.1, twins_fire w.0, twice_undone (fires h p))
      (put_same 3 h.target p))

  merge_keeps : merges g h ≡ true → applied (inverse h) p ≡ applied h (applied g p)
  unfolding inverse
  merge_keeps e =
      let w = merge_twins g h e in
      applied_puts (inverse h) h.target p refl
      ∙ ap (put 3 h.target p) (go g.operator w.2 w.1 (fires h p) (fires g p) (twins_fire w.0))
      ∙ sym (one_after_other w.0.target)
    where
      go : (o : ℕ) → o ≡ h.operator → is_c o ≡ true → (b c : Bool) → c ≡ b
          → turned b (inverse_op h.operator) (digit 3 h.target p) ≡ turned b h.operator (turned c o (digit 3 h.target p))
      go o eo co true c ec = rw (ec, eo) (sym (c_twice h.operator (digit 3 h.target p) x_lt (rw eo at co)))
      go o eo co false c ec = rw ec

  -- by the digit of the line on which the two differ: the one, the other, or the third value
  by_digit : Reduction g h → (o : ℕ) → g.operator ≡ o
      → turned (fires (retuned g h) p) (inverse_op o) (turned (fires (loosened g h) p) g.operator (digit 3 h.target p))
      ≡ turned (fires h p) o (turned (fires g p) g.operator (digit 3 h.target p))
  by_digit r o eo = go (ℕ_discrete (control g k) (digit 3 k p)) (ℕ_discrete (control h k) (digit 3 k p))
    where
      k : ℕ
      k = line_of g h

      as_loosened : (f : Gate) → control f (line_of g h) ≡ digit 3 (line_of g h) p → ((j : ℕ) → j < 6 → (j ≡ line_of g h → ⊥) → control f j ≡ control g j)
          → fires f p ≡ fires (loosened g h) p
      as_loosened f held others =
          fires_without f (loosened g h) p (line_of g h) held (loosened_here g h r) (λ j lt ne. others j lt ne ∙ sym (loosened_other g h r j ne))

      retuned_not : (third g h ≡ digit 3 (line_of g h) p → ⊥) → fires (retuned g h) p ≡ false
      retuned_not ne =
          fires_not (retuned g h) p (line_of g h) r.on (rw (retuned_here g h r) (third_lt g h r)) (λ e. ne (sym (retuned_here g h r) ∙ e))

      last : (s t d : ℕ) → s < 3 → t < 3 → d < 3 → (s ≡ t → ⊥) → (s ≡ d → ⊥) → (t ≡ d → ⊥) → 3 - s - t ≡ d
      last s t d ls lt ld st sd td = omega arith

      go : Dec (control g (line_of g h) ≡ digit 3 (line_of g h) p) → Dec (control h (line_of g h) ≡ digit 3 (line_of g h) p)
          → turned (fires (retuned g h) p) (inverse_op o) (turned (fires (loosened g h) p) g.operator (digit 3 h.target p))
          ≡ turned (fires h p) o (turned (fires g p) g.operator (digit 3 h.target p))
      go (yes s) w =
          rw
          (retuned_not (λ e. omega (arith, r.differ, r.first_lt, r.second_lt)), fires_not h p (line_of g h) r.on r.second_lt (λ e. r.differ (s ∙ sym e)), as_loosened g s (λ j lt ne. refl))
      go (no ns) (yes t) =
          rw
          (retuned_not (λ e. omega (arith, r.differ, r.first_lt, r.second_lt)), fires_not g p (line_of g h) r.on r.first_lt ns, as_loosened h t (λ j lt ne. sym (r.others j lt ne)))
          (ap (λ (u : ℕ). turned (fires (loosened g h) p) u (digit 3 h.target p)) eo)
      go (no ns) (no nt) =
          rw (
            fires_not g p (line_of g h) r.on r.first_lt ns,
            fires_not h p (line_of g h) r.on r.second_lt nt,
            as_loosened (retuned g h) (retuned_here g h r ∙ last (control g (line_of g h)) (control h (line_of g h)) (digit 3 (line_of g h) p) r.first_lt r.second_lt (digit_lt 3 (line_of g h) p (omega arith)) r.differ ns nt)
                (λ j lt ne. retuned_other g h r j ne ∙ sym (r.others j lt ne)),
          )
          (rw (← eo) (twice_undone (fires (loosened g h) p)))

  reduce_keeps : Reduction g h → applied (retuned g h) (applied (loosened g h) p) ≡ applied h (applied g p)
  unfolding loosened retuned inverse with_control
  reduce_keeps r =
      on_one_target (loosened g h) (retuned g h) h.target p r.target refl (retuned_gate g h r n okh).own
      ∙ ap (put 3 h.target p) (by_digit r h.operator r.operator)
      ∙ sym (one_after_other r.target)

-- a rule that fits keeps what its two gates compute, at every pattern
pub ruled_keeps : (n : ℕ) {g h : Gate} {a b : List Gate} → IsGate n g → IsGate n h → Ruled g h a b → (p : ℕ) → ran b (ran a p) ≡ applied h (applied g p)
unfolding through
ruled_keeps n {g} {h} okg okh (cancel e) p = cancel_keeps n g h okg okh p e
ruled_keeps n {g} {h} okg okh (merge e) p = merge_keeps n g h okg okh p e
ruled_keeps n {g} {h} okg okh (reduce e) p = reduce_keeps n g h okg okh p (reduction g h e)
