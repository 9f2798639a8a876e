use Rattle.std.proofs.lemmas.List.Sorted.{IsPermutation-trans}
use Rattle.drawing.proofs.draws.Generator.draw_table.Goals as goal

pub loop-last-preserved : goal.loop-last-preserved
loop-last-preserved c = IsPermutation-trans _ _ _ c.loop-last.invariant c.swap.ensures.permutation
