-- `synthesis::compute_bound` meets its contract: the size is at least 1, and half of what is above 1 is no more than the product. Assumes nothing.
use Rattle.std.proofs.Common.{◌≡◌, ℕ, zero, suc, ◌-◌, ◌*◌, ◌/◌, ◌^◌, ◌≤◌, refl, arith}
use Rattle.std.proofs.Math.Nat.{pow-zero}
use Rattle.digits.proofs.Sizes.{three_pos, patterns_some}
use Rattle.synthesis.specs.Synthesis.{bound}
use Rattle.synthesis.proofs.compute_bound.Goals as goal

half : (n size : ℕ) → size ≡ 3 ^ n → (size - 1) / 2 ≤ n * size
half zero size e = let one : size ≡ 1 = rw pow-zero at e in omega arith
half (suc m) size e = omega arith

pub overflow_sub-result : goal.overflow_sub-result
overflow_sub-result c = omega (arith, patterns_some 3 c.args.n three_pos)

pub overflow_sub-result-2 : goal.overflow_sub-result-2
overflow_sub-result-2 c = half _ _ c.power-size.ensures

pub returns : goal.returns
unfolding bound
returns c = rw c.power-size.ensures refl
