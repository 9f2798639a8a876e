-- What pricing looks up: the points of three lines, the price of so many points, and for a gate its price. Assumes nothing.
use Rattle.std.proofs.Common.{◌≡◌, refl, sym, ap, ◌∙◌, Bool, true, false, cond, ◌||◌, List, ℕ, zero, suc, ◌+◌, ◌*◌, ◌/◌, ◌%◌, ◌^◌, ◌≤◌, ◌<◌, arith, eqb, get_or}
use Rattle.ranges.specs.Ranges.{sum}
use Rattle.ranges.proofs.Sums.{sum_ext}
use Rattle.digits.specs.Digits.{digit}
use Rattle.digits.proofs.Digits.{digit_low, digit_up}
use Rattle.gates.specs.declared.Gate.{Gate}
use Rattle.gates.specs.Gates.{control, IsGate, control_count}
use Rattle.pricing.specs.Prices.{others, plain_price, gate_price}
use Rattle.pricing.specs.Inner.Rates.{points, points_of, points_price, extra}
use Rattle.pricing.proofs.Costs.{base_five, others_le, controls_le}

-- the price of p points is 85 at most
pub points_price_le : (p : ℕ) → p < 36 → points_price p ≤ 85
unfolding points_price
points_price_le p lt = omega (arith, base_five (p % 6) (omega arith))

-- the points of three lines, as they are added up
pub points_three : (v c : ℕ) → points v (digit 4 0 c) + points v (digit 4 1 c) + points v (digit 4 2 c) ≡ points_of 3 v c
unfolding points_of sum
points_three v c = omega arith

-- six lines are twice three
pub points_halves : (v c : ℕ) → points_of 3 v (c % 64) + points_of 3 v (c / 64) ≡ points_of 6 v c
unfolding points_of sum
points_halves v c =
    let whole : c % 64 + 4 ^ 3 * (c / 64) ≡ c = omega arith in
    let low : (k : ℕ) → k < 3 → digit 4 k (c % 64) ≡ digit 4 k c =
    λ k lt. sym (digit_low 4 k 3 (c % 64) (c / 64) (omega arith) lt) ∙ ap (digit 4 k) whole in
    let high : (k : ℕ) → digit 4 k (c / 64) ≡ digit 4 (3 + k) c =
    λ k. sym (digit_up 4 k 3 (c % 64) (c / 64) (omega arith)) ∙ ap (digit 4 (3 + k)) whole in
    rw (low 0 (omega arith), low 1 (omega arith), low 2 (omega arith), high 0, high 1, high 2) (omega arith)

-- the points of a gate are its controls, and six times those of another value
pub points_are : (v : ℕ) (g : Gate) → points_of 6 v g.controls ≡ control_count g + 6 * others v g
unfolding points_of points control_count others sum
points_are v g =
    sum_ext _ _ 0 6 (λ k le lt. one (eqb (control g k) 3) (eqb (control g k) v))
    ∙ apart (λ k. cond (eqb (control g k) 3) 0 1) (λ k. cond (eqb (control g k) 3 || eqb (control g k) v) 0 1) 0 6
  where
    one : (a b : Bool) → cond a 0 (cond b 1 7) ≡ cond {A = ℕ} a 0 1 + 6 * cond (a || b) 0 1
    one true b = refl
    one false true = refl
    one false false = refl

    apart : (f h : ℕ → ℕ) (i m : ℕ) → sum (λ k. f k + 6 * h k) i m ≡ sum f i m + 6 * sum h i m
    apart f h i zero = refl
    apart f h i (suc m) = omega (arith, apart f h (i + 1) m)

-- the tables that pricing looks up at the global value v with the set s
pub record Rates (v s : ℕ) (points prices extras : List ℕ) : Type 0 where
  pub halves : (k : ℕ) → k < 64 → get_or points k 0 ≡ points_of 3 v k
  pub priced : (k : ℕ) → k < 36 → get_or prices k 0 ≡ points_price k
  pub paid : (k : ℕ) → k < 6 → get_or extras k 0 ≡ extra s k

-- a gate has five controls at most, so that its points tell both numbers; looked up, they give its price
module _ (n v s : ℕ) (g : Gate) (six : n ≤ 6) (ok : IsGate n g) (points prices extras : List ℕ) (r : Rates v s points prices extras) where
  both : get_or points (g.controls % 64) 0 + get_or points (g.controls / 64) 0 ≡ control_count g + 6 * others v g
  both = rw (r.halves (g.controls % 64) (omega arith), r.halves (g.controls / 64) (omega (arith, ok.packed))) (points_halves v g.controls ∙ points_are v g)

  pub points_lt : get_or points (g.controls % 64) 0 + get_or points (g.controls / 64) 0 < 36
  points_lt = omega (arith, both, controls_le n g six ok, others_le n v g six ok)

  pub price_looked_up : get_or prices (get_or points (g.controls % 64) 0 + get_or points (g.controls / 64) 0) 0 + get_or extras g.operator 0 ≡ gate_price v s g
  unfolding points_price gate_price plain_price
  price_looked_up =
      let number : (control_count g + 6 * others v g) % 6 ≡ control_count g = omega (arith, controls_le n g six ok) in
      let other : (control_count g + 6 * others v g) / 6 ≡ others v g = omega (arith, controls_le n g six ok) in
      rw (both, r.priced (control_count g + 6 * others v g) (omega (arith, both, points_lt)), r.paid g.operator (omega (arith, ok.op_high)), number, other)
