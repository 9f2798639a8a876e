-- `gates::controls::with_control` meets its contract: `put` is what the body computes, and its parts fit. Assumes nothing.
use Rattle.std.proofs.Common.{◌≡◌, ℕ, ◌+◌, ◌-◌, ◌*◌, ◌%◌, ◌^◌, ◌≤◌, ◌<◌, eqb, eqb-true, refl, arith}
use Rattle.std.proofs.lemmas.Nat.{mul-le}
use Rattle.std.proofs.Math.Nat.{pow-le-pow_right}
use Rattle.ranges.specs.Ranges.{every}
use Rattle.ranges.proofs.Tests.{every_below}
use Rattle.digits.specs.Digits.{put}
use Rattle.digits.proofs.Digits.{put_parts}
use Rattle.gates.proofs.controls.with_control.Goals as goal

weight_is : (k : ℕ) → k < 6 → 1 * 2 ^ (2 * k) % 65536 ≡ 4 ^ k
unfolding every
weight_is k lt = eqb-true _ _ (every_below (λ k. eqb (1 * 2 ^ (2 * k) % 65536) (4 ^ k)) 6 refl k lt)

abbrev weight : ℕ → ℕ
weight k = 1 * 2 ^ (2 * k) % 65536

module _ (c : goal.After-control_on) where
  parts : (c.control_on.result * weight c.args.k ≤ c.args.controls) × (c.args.controls - c.control_on.result * weight c.args.k + c.args.v * weight c.args.k ≡ put 4 c.args.k c.args.controls c.args.v)
  parts = put_parts _ _ _ _ _ _ (weight_is _ c.requires.1) c.control_on.ensures

  new : c.args.v * weight c.args.k ≤ 3 * 1024
  new = mul-le _ _ 3 1024 (omega arith) (rw (weight_is _ c.requires.1) (pow-le-pow_right {n = 4} (omega arith) {i = c.args.k} {j = 5} (omega arith)))

pub overflow_mul-result : goal.overflow_mul-result
overflow_mul-result c = omega (arith, parts c)

pub overflow_sub-result : goal.overflow_sub-result
overflow_sub-result c = (parts c).0

pub overflow_mul-result-2 : goal.overflow_mul-result-2
overflow_mul-result-2 c = omega (arith, new c)

pub overflow_add-result : goal.overflow_add-result
overflow_add-result c = omega (arith, parts c, new c)

pub returns : goal.returns
returns c = (parts c).1
