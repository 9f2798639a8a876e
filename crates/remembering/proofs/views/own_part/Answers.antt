-- `remembering::views::own_part` meets its contract: the table has the right byte for each operator, which is computed. Assumes nothing.
use Rattle.std.proofs.Common.{◌≡◌, ℕ, ◌<◌, [], ◌∷◌, get_or, eqb, refl, ◌∙◌, eqb-true}
use Rattle.ranges.specs.Ranges.{every}
use Rattle.ranges.proofs.Tests.{every_below}
use Rattle.rules.specs.Places.{is_c}
use Rattle.remembering.specs.Inner.Views.{type_of, own_part}
use Rattle.remembering.proofs.Stretches.{own_lt}
use Rattle.remembering.proofs.views.own_part.Goals as goal

part_is : (o : ℕ) → o < 6 → get_or (0x00 ∷ 0x87 ∷ 0x87 ∷ 0x1e ∷ 0x4b ∷ 0x2d ∷ []) o 0 ≡ own_part o
unfolding every own_part type_of is_c
part_is o lt = eqb-true _ _ (every_below (λ o. eqb (get_or (0x00 ∷ 0x87 ∷ 0x87 ∷ 0x1e ∷ 0x4b ∷ 0x2d ∷ []) o 0) (own_part o)) 6 refl o lt)

pub returns : goal.returns
returns c = let e = c.from.ensures ∙ part_is _ c.requires in (e, rw e (own_lt c.args.o))
