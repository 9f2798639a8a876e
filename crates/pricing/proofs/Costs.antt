-- Prices: how large a price can be, the price of an appended list, a loop that adds prices up. `cost_fits` bounds the cost of any cascade, `all_fitted`
-- says which price is document 01's. Assumes nothing.
use Rattle.std.proofs.Common.{◌≡◌, refl, ap, ⊎_elim, Bool, true, false, cond, ◌||◌, List, ◌++◌, ℕ, zero, suc, ◌+◌, ◌-◌, ◌≤◌, ◌<◌, add_assoc, add-zero, arith, eqb}
use Rattle.ranges.proofs.Counts.{here_or_later}
use Rattle.ranges.proofs.Bools.{one_at_most}
use Rattle.ranges.specs.Ranges.{span}
use Rattle.ranges.specs.Lists.{Each, total}
use Rattle.ranges.proofs.Sums.{sum_le_but, sum_ext}
use Rattle.ranges.proofs.Spans.{span_more, span_ends}
use Rattle.ranges.proofs.Lists.{each_imp, total_append, total_le}
use Rattle.ranges.proofs.Parts.{total_ext}
use Rattle.gates.specs.declared.Gate.{Gate}
use Rattle.gates.specs.Gates.{control, IsGate, control_count}
use Rattle.cascades.specs.Cascades.{gate_in, Cascade}
use Rattle.boards.specs.Boards.{is_fitted}
use Rattle.boards.proofs.Boards.{fitted_all}
use Rattle.pricing.specs.Prices.{base, others, plain_price, gate_price, cascade_price}

-- more controls cost no less
pub base_rises : (k : ℕ) → base k ≤ base (suc k)
unfolding base
base_rises zero = omega arith
base_rises (suc zero) = omega arith
base_rises (suc (suc k)) = omega arith

pub base_le : (j k : ℕ) → j ≤ k → base j ≤ base k
base_le j zero le = (let e : j ≡ 0 = omega arith in rw e (omega arith))
base_le j (suc k) le = ⊎_elim (λ (q : j ≡ suc k). omega (arith, ap base q)) (λ (l : j < suc k). omega (arith, base_le j k (omega arith), base_rises k)) (here_or_later le)

pub base_five : (k : ℕ) → k ≤ 5 → base k ≤ 75
base_five k le = omega (arith, base_le k 5 le, most)
  where
    most : base 5 ≡ 75
    most = unfold base in refl

-- no control has the value 3, so the controls are those with another value than 3
pub count_others : (g : Gate) → others 3 g ≡ control_count g
unfolding others control_count
count_others g = sum_ext _ _ 0 6 (λ k le lt. one (eqb (control g k) 3))
  where
    one : (b : Bool) → cond (b || b) 0 1 ≡ cond {A = ℕ} b 0 1
    one true = refl
    one false = refl

-- the target of a gate has no control, so it has five at most
pub others_le : (n v : ℕ) (g : Gate) → n ≤ 6 → IsGate n g → others v g ≤ 5
unfolding others
others_le n v g six ok =
    let none : cond {A = ℕ} (eqb (control g g.target) 3 || eqb (control g g.target) v) 0 1 ≡ 0 = rw ok.own in
    let s = sum_le_but (λ k. cond (eqb (control g k) 3 || eqb (control g k) v) 0 1) 1 0 6 g.target (λ k. one_at_most (eqb (control g k) 3 || eqb (control g k) v)) (omega arith) (omega (arith, ok.on_line)) none in
    omega arith

pub controls_le : (n : ℕ) (g : Gate) → n ≤ 6 → IsGate n g → control_count g ≤ 5
controls_le n g six ok = rw (← count_others g) (others_le n 3 g six ok)

-- a cascade's price is the sum over its parts
pub price_append : (v s : ℕ) (gs hs : List Gate) → cascade_price v s (gs ++ hs) ≡ cascade_price v s gs + cascade_price v s hs
unfolding cascade_price
price_append v s gs hs = total_append (gate_price v s) gs hs

-- one turn of a loop that adds prices up, and its end
pub price_more : (v s : ℕ) (b : List ℕ) (m i cost : ℕ) → i < m
    → cost + gate_price v s (gate_in b i) + cascade_price v s (span (gate_in b) (i + 1) (m - (i + 1))) ≡ cost + cascade_price v s (span (gate_in b) i (m - i))
unfolding cascade_price total
price_more v s b m i cost lt = rw (span_more (gate_in b) m i lt, add_assoc)

pub price_ends : (v s : ℕ) (b : List ℕ) (m i cost : ℕ) → m ≤ i → cost + cascade_price v s (span (gate_in b) i (m - i)) ≡ cost
unfolding cascade_price total
price_ends v s b m i cost le = rw (span_ends (gate_in b) m i le, add-zero)

-- the dearest gate has five controls, none of the global value, and an operator that is not fitted: 75, 10 and 1
pub price_le : (n v s : ℕ) (g : Gate) → n ≤ 6 → IsGate n g → gate_price v s g ≤ 86
unfolding gate_price plain_price
price_le n v s g six ok = omega (arith, base_five (control_count g) (controls_le n g six ok), others_le n v g six ok, one_at_most (is_fitted s g.operator))

-- so the cost of any cascade fits 32 bits
pub cost_fits : (n v s : ℕ) (gs : List Gate) → n ≤ 6 → Cascade n gs → cascade_price v s gs ≤ 688000
unfolding cascade_price
cost_fits n v s gs six c =
    let each : Each (λ g. gate_price v s g ≤ 86) gs = each_imp (IsGate n) (λ g. gate_price v s g ≤ 86) (λ g ok. price_le n v s g six ok) gs c.gates in
    omega (arith, total_le (gate_price v s) 86 gs each, c.most)

-- with all fitted it is document 01's price
pub all_fitted : (v : ℕ) (gs : List Gate) → cascade_price v 7 gs ≡ total (plain_price v) gs
unfolding cascade_price gate_price
all_fitted v gs = total_ext (gate_price v 7) (plain_price v) one gs
  where
    one : (g : Gate) → gate_price v 7 g ≡ plain_price v g
    one g = rw (fitted_all g.operator) (add-zero (plain_price v g))
