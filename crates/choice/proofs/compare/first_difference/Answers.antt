-- `choice::compare::first_difference` meets its contract: a table of so many lines fits its room. Assumes nothing.
use Rattle.std.proofs.Common.{sym, ◌∙◌, ◌≤◌, length-take-le, arith}
use Rattle.digits.proofs.Sizes.{patterns_most}
use Rattle.card.proofs.Cards.{lines_are}
use Rattle.choice.proofs.compare.first_difference.Goals as goal
use Rattle.choice.proofs.compare.first_difference.Goals.{After-power-size}

module _ (c : After-power-size) where
  fits : c.power-size.result ≤ 729
  fits = omega (arith, c.power-size.ensures, patterns_most _ (lines_are _ c.requires.first_whole.lines).1)

pub power-size-requires : goal.power-size-requires
power-size-requires c = (lines_are _ c.requires.first_whole.lines).1

pub slice_bounds-one-end : goal.slice_bounds-one-end
slice_bounds-one-end c = fits c

pub slice_bounds-difference_in-end : goal.slice_bounds-difference_in-end
slice_bounds-difference_in-end c = sym (length-take-le _ _ (fits (goal.at.slice_bounds-difference_in-end c).After-power-size))

pub slice_bounds-two-end : goal.slice_bounds-two-end
slice_bounds-two-end c = fits (goal.at.slice_bounds-two-end c).After-power-size

pub slice_bounds-difference_in-end-2 : goal.slice_bounds-difference_in-end-2
slice_bounds-difference_in-end-2 c = sym (length-take-le _ _ (fits (goal.at.slice_bounds-difference_in-end-2 c).After-power-size))

pub difference_in-requires : goal.difference_in-requires
difference_in-requires c =
    let e = length-take-le _ _ (fits (goal.at.difference_in-requires c).After-power-size) ∙ c.power-size.ensures in
    record { first_whole = c.requires.first_whole; second_whole = c.requires.second_whole; first_room = e; second_room = e }
