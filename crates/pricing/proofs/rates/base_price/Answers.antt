-- `pricing::rates::base_price` meets its contract: the constant table is the base price of 0 to 5 controls, which is computed. Assumes nothing.
use Rattle.std.proofs.Common.{◌≡◌, ℕ, ◌<◌, ◌∷◌, [], get_or, eqb, eqb-true, refl, arith}
use Rattle.ranges.specs.Ranges.{every}
use Rattle.ranges.proofs.Tests.{every_below}
use Rattle.pricing.specs.Prices.{base}
use Rattle.pricing.proofs.Costs.{base_five}
use Rattle.pricing.proofs.rates.base_price.Goals as goal

base_at : (k : ℕ) → k < 6 → get_or (1 ∷ 1 ∷ 5 ∷ 15 ∷ 35 ∷ 75 ∷ []) k 0 ≡ base k
unfolding base every
base_at k lt = eqb-true _ _ (every_below (λ k. eqb (get_or (1 ∷ 1 ∷ 5 ∷ 15 ∷ 35 ∷ 75 ∷ []) k 0) (base k)) 6 refl k lt)

pub returns : goal.returns
returns c = (base_at _ c.requires, rw (base_at _ c.requires) (base_five _ (omega arith)))
