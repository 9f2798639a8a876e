-- The entries behind the rise are reversed in place, after one exchange.
use Rattle.std.proofs.lemmas.List.Sorted.{IsPermutation-put_mid, IsPermutation-trans, IsPermutation-refl}
use Rattle.drawing.proofs.orders.write_next.Goals.{in-Some-rposition, in_default-rposition}
use Rattle.drawing.proofs.orders.write_next.Goals as goal

pub returns : goal.returns
returns c =
    IsPermutation-trans c.args.table.now c.match-rposition-2.table _
    (elim c.match-rposition-2.branch [ in-Some-rposition w ↦ rw w.table-is w.swap.ensures.permutation | in_default-rposition w ↦ rw w.table-is (IsPermutation-refl _) ])
    (IsPermutation-put_mid _ _ _ _ c.reverse.ensures.permutation)
