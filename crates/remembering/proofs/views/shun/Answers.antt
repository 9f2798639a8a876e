-- `remembering::views::shun` meets its contract: the marks add up to the types that upset each control. Assumes nothing.
use Rattle.std.proofs.Common.{arith, ◌+◌, ◌-◌, ◌*◌, ◌/◌, ◌<◌, ◌≡◌}
use Rattle.digits.proofs.Bits.{digit_of_zero}
use Rattle.gates.specs.Inner.Words.{gate_of}
use Rattle.gates.proofs.Marks.{marks_lt}
use Rattle.remembering.specs.Inner.Views.{shunned}
use Rattle.remembering.proofs.Stretches.{shun_sum, shunned_lt}
use Rattle.remembering.proofs.views.shun.Goals as goal
use Rattle.remembering.proofs.views.shun.Goals.{After-mark_others}

module _ (c : After-mark_others) where
  total : 12 * c.mark_controls.result + 4 * c.mark_others.result ≡ shunned (gate_of c.args.w) + c.args.w / 0x1_0000 + 0x0101_0101_0101
  total = rw (c.mark_controls.ensures, c.mark_others.ensures) (shun_sum c.args.w c.requires.small c.requires.lines)

  small : 12 * c.mark_controls.result + 4 * c.mark_others.result < 0x1_0000_0000_0000_0000
  small = omega (arith, total, shunned_lt c.args.w c.requires.small c.requires.lines, c.requires.small)

pub mark_others-requires : goal.mark_others-requires
mark_others-requires c = (c.requires.lines, λ k l. rw (digit_of_zero 256 k (omega arith)) (omega arith))

pub overflow_mul-result : goal.overflow_mul-result
overflow_mul-result c = rw c.mark_controls.ensures (omega (arith, marks_lt c.args.w))

pub overflow_mul-result-2 : goal.overflow_mul-result-2
overflow_mul-result-2 c = omega (arith, small c)

pub overflow_add-result : goal.overflow_add-result
overflow_add-result c = omega (arith, small c)

pub overflow_sub-result : goal.overflow_sub-result
overflow_sub-result c = omega (arith, total c)

pub overflow_sub-result-2 : goal.overflow_sub-result-2
overflow_sub-result-2 c = omega (arith, total c)

pub returns : goal.returns
returns c =
    let e : 12 * c.mark_controls.result + 4 * c.mark_others.result - c.args.w / 0x1_0000 - 0x0101_0101_0101 ≡ shunned (gate_of c.args.w) = omega (arith, total c) in
    (e, rw e (shunned_lt c.args.w c.requires.small c.requires.lines))
