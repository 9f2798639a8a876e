-- `remembering::views::other_part` meets its contract: the byte for each operator, turned, is computed. Assumes nothing.
use Rattle.std.proofs.Common.{◌≡◌, ℕ, ◌<◌, [], ◌∷◌, get_or, eqb, refl, ◌∙◌, eqb-true, w8}
use Rattle.std.specs.Int.{rotate_left}
use Rattle.ranges.specs.Ranges.{every}
use Rattle.ranges.proofs.Tests.{every_below}
use Rattle.rules.specs.Places.{is_c}
use Rattle.remembering.specs.Inner.Views.{type_of, own_part, other_part}
use Rattle.remembering.proofs.Stretches.{other_lt}
use Rattle.remembering.proofs.views.other_part.Goals as goal

part_is : (o : ℕ) → o < 6 → rotate_left w8 (get_or (0x00 ∷ 0x87 ∷ 0x87 ∷ 0x1e ∷ 0x4b ∷ 0x2d ∷ []) o 0) 4 ≡ other_part o
unfolding every other_part own_part type_of is_c
part_is o lt = eqb-true _ _ (every_below (λ o. eqb (rotate_left w8 (get_or (0x00 ∷ 0x87 ∷ 0x87 ∷ 0x1e ∷ 0x4b ∷ 0x2d ∷ []) o 0) 4) (other_part o)) 6 refl o lt)

pub returns : goal.returns
returns c = let e = c.from.ensures ∙ c.rotate_left.ensures ∙ part_is _ c.requires in (e, rw e (other_lt c.args.o))
