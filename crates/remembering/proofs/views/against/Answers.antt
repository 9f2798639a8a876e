-- `remembering::views::against` meets its contract: the target's byte is added to those of the controls. Assumes nothing.
use Rattle.std.proofs.Common.{◌*◌, ◌≤◌, arith}
use Rattle.remembering.proofs.Stretches.{against_word, part_most}
use Rattle.remembering.proofs.views.against.Goals as goal
use Rattle.remembering.proofs.views.against.Goals.{After-weight}

module _ (c : After-weight) where
  part : c.other_part.result * c.weight.result ≤ 0xff_0000_0000_0000
  part = rw c.weight.ensures (part_most c.other_part.result c.args.w c.other_part.ensures.1 c.requires.on_line)

pub overflow_mul-result-2 : goal.overflow_mul-result-2
overflow_mul-result-2 c = omega (arith, part c)

pub overflow_add-result : goal.overflow_add-result
overflow_add-result c = omega (arith, part c, c.shun.ensures.1)

pub returns : goal.returns
returns c = rw (c.shun.ensures.0, c.other_part.ensures.0, c.weight.ensures) (against_word c.args.w c.requires.small c.requires.lines)
