-- What a rule lowers: gates, gates plus controls, and the price, at every global control value.
-- A price is stated over what it is made of: the base price of the controls, two for each control of another value, and an amount that the operator
-- alone decides and that C1 and C2 do not cost. Assumes nothing.
use mathlib.Core.Path.{◌≡◌, refl, sym, ap, ◌∙◌}
use mathlib.Core.Bool.{Bool, true, false, cond, ◌||◌}
use mathlib.Core.List.{List}
use Prim.Native.Nat.{ℕ, suc, ◌+◌, ◌*◌, ◌<◌, ◌≤◌}
use native.Mathlib.Omega.{arith}
use lib.Dec.{eqb}
use borrow.Author.Tests.{eqb-true, ne_eqb}
use Rattle.ranges.specs.Ranges.{sum}
use Rattle.ranges.specs.Lists.{total}
use Rattle.ranges.proofs.Bools.{one_at_most}
use Rattle.ranges.proofs.Tallies.{sum_change}
use Rattle.ranges.proofs.Sums.{sum_le}
use Rattle.gates.specs.declared.Gate.{Gate}
use Rattle.gates.specs.Gates.{control, inverse_op, inverse, IsGate, control_count}
use Rattle.gates.proofs.Operators.{five}
use Rattle.boards.specs.Boards.{is_fitted}
use Rattle.pricing.specs.Prices.{base, others, plain_price, gate_price, cascade_price}
use Rattle.pricing.proofs.Costs.{base_rises}
use Rattle.rules.specs.Rules.{line_of, with_control, loosened, retuned}
use Rattle.rules.proofs.Rules.{Reduction, reduction, third, third_lt, loosened_here, loosened_other, retuned_here, retuned_other, Ruled}
use Rattle.rules.proofs.Rules.Ruled.{cancel, merge, reduce}

-- ---- a sum over the controls of a gate, where each value c counts w c

abbrev marks : (ℕ → ℕ) → Gate → ℕ
marks w g = sum (λ k. w (control g k)) 0 6

module _ (w : ℕ → ℕ) (g h : Gate) (r : Reduction g h) where
  loosened_marks : marks w (loosened g h) + w (control g (line_of g h)) ≡ marks w g + w 3
  loosened_marks =
      sum_change (λ k. w (control (loosened g h) k)) (λ k. w (control g k)) 0 6 (line_of g h) (omega arith) (omega (arith, r.on))
      (λ k le lt ne. ap w (loosened_other g h r k ne))
      ∙ ap (λ (c : ℕ). marks w g + w c) (loosened_here g h r)

  retuned_marks : marks w (retuned g h) + w (control h (line_of g h)) ≡ marks w h + w (third g h)
  retuned_marks =
      sum_change (λ k. w (control (retuned g h) k)) (λ k. w (control h k)) 0 6 (line_of g h) (omega arith) (omega (arith, r.on))
      (λ k le lt ne. ap w (retuned_other g h r k ne))
      ∙ ap (λ (c : ℕ). marks w h + w c) (retuned_here g h r)

-- ---- gates and controls

is_control : ℕ → ℕ
is_control c = cond (eqb c 3) 0 1

counts_one : (c : ℕ) → c < 3 → is_control c ≡ 1
unfolding is_control
counts_one c lt = rw (ne_eqb c 3 (omega arith))

module _ (g h : Gate) (r : Reduction g h) where
  loosened_count : control_count (loosened g h) + 1 ≡ control_count g
  unfolding control_count is_control
  loosened_count = omega (arith, loosened_marks is_control g h r, counts_one (control g (line_of g h)) r.first_lt)

  retuned_count : control_count (retuned g h) ≡ control_count h
  unfolding control_count is_control
  retuned_count =
      omega (arith, retuned_marks is_control g h r, counts_one (control h (line_of g h)) r.second_lt, counts_one (third g h) (third_lt g h r))

inverse_count : (g : Gate) → control_count (inverse g) ≡ control_count g
unfolding control_count inverse
inverse_count g = refl

-- a gate has no more controls than there are lines
pub control_count_le : (g : Gate) → control_count g ≤ 6
unfolding control_count
control_count_le g = sum_le (λ k. cond (eqb (control g k) 3) 0 1) 1 0 6 (λ k. one_at_most (eqb (control g k) 3))

-- a rule leaves no more gates
pub gates_fall : {g h : Gate} {a b : List Gate} → Ruled g h a b → total (λ x. 1) a + total (λ x. 1) b ≤ 2
unfolding total
gates_fall (cancel e) = omega arith
gates_fall (merge e) = omega arith
gates_fall (reduce e) = omega arith

-- and fewer gates and controls
pub gates_and_controls_fall : {g h : Gate} {a b : List Gate} → Ruled g h a b
    → total (λ x. suc (control_count x)) a + total (λ x. suc (control_count x)) b + 1 ≤ suc (control_count g) + suc (control_count h)
unfolding total
gates_and_controls_fall (cancel e) = omega arith
gates_and_controls_fall {h = h} (merge e) = omega (arith, inverse_count h)
gates_and_controls_fall {g} {h} (reduce e) = let r = reduction g h e in omega (arith, loosened_count g h r, retuned_count g h r)

-- ---- the price

-- a price at the global value v: e is what an operator costs beside its controls
unfoldable pub price_with : (ℕ → ℕ) → ℕ → Gate → ℕ
price_with e v g = base (control_count g) + 2 * others v g + e g.operator

-- with a fitted set s an operator costs 1 where it is not fitted
pub price_fitted : (v s : ℕ) (gs : List Gate) → total (price_with (λ o. cond (is_fitted s o) 0 1) v) gs ≡ cascade_price v s gs
unfolding price_with cascade_price gate_price plain_price
price_fitted v s gs = refl

is_other : ℕ → ℕ → ℕ
is_other v c = cond (eqb c 3 || eqb c v) 0 1

other_le : (v c : ℕ) → is_other v c ≤ 1
unfolding is_other
other_le v c = one_at_most (eqb c 3 || eqb c v)

-- of two different values one at least is not the global one
one_other : (v s t : ℕ) → s < 3 → t < 3 → (s ≡ t → ⊥) → 1 ≤ is_other v s + is_other v t
unfolding is_other
one_other v s t ls lt ne =
    rw (ne_eqb s 3 (omega arith), ne_eqb t 3 (omega arith)) (go (eqb s v) (eqb t v) (λ p q. ne (eqb-true s v p ∙ sym (eqb-true t v q))))
  where
    go : (a b : Bool) → (a ≡ true → b ≡ true → ⊥) → 1 ≤ cond a 0 1 + cond b 0 1
    go true true no-two = absurd (no-two refl refl)
    go true false no-two = omega arith
    go false b no-two = omega arith

others_fall : (v : ℕ) (g h : Gate) → Reduction g h → others v (loosened g h) + others v (retuned g h) ≤ others v g + others v h
unfolding others is_other
others_fall v g h r =
    omega
    (arith, loosened_marks (is_other v) g h r, retuned_marks (is_other v) g h r, other_le v (third g h), one_other v (control g (line_of g h)) (control h (line_of g h)) r.first_lt r.second_lt r.differ)

base_falls : (g h : Gate) → Reduction g h → base (control_count (loosened g h)) + base (control_count (retuned g h)) ≤ base (control_count g) + base (control_count h)
base_falls g h r =
    let one : suc (control_count (loosened g h)) ≡ control_count g = omega (arith, loosened_count g h r) in
    omega (arith, base_rises (control_count (loosened g h)), ap base one, ap base (retuned_count g h r))

inverse_others : (v : ℕ) (g : Gate) → others v (inverse g) ≡ others v g
unfolding others inverse
inverse_others v g = refl

-- a rule leaves no dearer gates: for every global value, and every amount for the operators that C1 and C2 do not cost
module _ (e : ℕ → ℕ) (c1 : e 1 ≡ 0) (c2 : e 2 ≡ 0) where
  inverse_extra : (o : ℕ) → 1 ≤ o → o ≤ 5 → e (inverse_op o) ≡ e o
  unfolding inverse_op
  inverse_extra = five (λ o. e (inverse_op o) ≡ e o) (c2 ∙ sym c1) (c1 ∙ sym c2) refl refl refl

  reduced_extra : (g h : Gate) → 1 ≤ h.operator → h.operator ≤ 5 → e (loosened g h).operator + e (retuned g h).operator ≡ e g.operator + e h.operator
  unfolding loosened retuned with_control inverse
  reduced_extra g h lo hi = ap (λ (x : ℕ). e g.operator + x) (inverse_extra h.operator lo hi)

  pub price_falls : (n v : ℕ) {g h : Gate} {a b : List Gate} → IsGate n g → IsGate n h → Ruled g h a b
      → total (price_with e v) a + total (price_with e v) b ≤ price_with e v g + price_with e v h
  unfolding total price_with inverse
  price_falls n v okg okh (cancel f) = omega arith
  price_falls n v {h = h} okg okh (merge f) =
      omega (arith, ap base (inverse_count h), inverse_others v h, inverse_extra h.operator okh.op_low okh.op_high)
  price_falls n v {g} {h} okg okh (reduce f) =
      let r = reduction g h f in
      omega (arith, base_falls g h r, others_fall v g h r, reduced_extra g h okh.op_low okh.op_high)
