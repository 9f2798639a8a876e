-- `sheets::list_file` meets its contract: the entries of six lines or fewer fit an array of 729. Assumes nothing.
use Rattle.std.proofs.Common.{refl, sym, ◌∙◌, ◌≤◌, length-take-le}
use Rattle.digits.proofs.Sizes.{patterns_most}
use Rattle.card.proofs.Cards.{lines_are}
use Rattle.sheets.proofs.list_file.Goals as goal
use Rattle.sheets.proofs.list_file.Goals.{Start}

most : (c : Start) → c.args.size ≤ 729
most c = rw c.requires.1 (patterns_most _ (lines_are _ c.requires.0.lines).1)

pub slice_bounds-table-end : goal.slice_bounds-table-end
slice_bounds-table-end c = most (goal.at.slice_bounds-table-end c).Start

pub slice_bounds-list_entries-end : goal.slice_bounds-list_entries-end
slice_bounds-list_entries-end c = sym (length-take-le _ _ (most (goal.at.slice_bounds-list_entries-end c).Start))

pub list_entries-requires : goal.list_entries-requires
list_entries-requires c =
    (c.requires.0, length-take-le _ _ (most (goal.at.list_entries-requires c).Start) ∙ c.requires.1, refl)
