-- `digits::with_digit` meets its contract: `put` is what the body computes, and its parts fit. Assumes nothing.
use Rattle.std.proofs.Common.{◌≡◌, ◌-◌, ◌+◌, ◌*◌, ◌≤◌, arith}
use Rattle.std.proofs.lemmas.Nat.{mul-le}
use Rattle.digits.specs.Digits.{put}
use Rattle.digits.proofs.Digits.{put_parts}
use Rattle.digits.proofs.Sizes.{patterns_most}
use Rattle.digits.proofs.with_digit.Goals as goal

module _ (c : goal.After-power-w) where
  parts : (c.args.x * c.power-w.result ≤ c.args.p) × (c.args.p - c.args.x * c.power-w.result + c.args.d * c.power-w.result ≡ put 3 c.args.k c.args.p c.args.d)
  parts = put_parts _ _ _ _ _ _ c.power-w.ensures c.requires.1

  new : c.args.d * c.power-w.result ≤ 2 * 729
  new = mul-le _ _ 2 729 (omega arith) (rw c.power-w.ensures (patterns_most _ c.requires.0))

pub overflow_mul-result : goal.overflow_mul-result
overflow_mul-result c = omega (arith, parts c)

pub overflow_sub-result : goal.overflow_sub-result
overflow_sub-result c = (parts c).0

pub overflow_mul-result-2 : goal.overflow_mul-result-2
overflow_mul-result-2 c = omega (arith, new c)

pub overflow_add-result : goal.overflow_add-result
overflow_add-result c = omega (arith, parts c, new c)

pub returns : goal.returns
returns c = (parts c).1
