-- `remembering::views::fold_marks` meets its contract: it is the definition. Assumes nothing.
use Rattle.std.proofs.Common.{refl}
use Rattle.remembering.specs.Inner.Views.{six_bits}
use Rattle.remembering.proofs.Stretches.{six_bits_lt}
use Rattle.remembering.proofs.views.fold_marks.Goals as goal

pub returns : goal.returns
unfolding six_bits
returns c = (refl, six_bits_lt c.args.a)
