use Rattle.std.proofs.Common.{◌≡◌}
use Rattle.synthesis.proofs.SettlingRows.{Settling}
use Rattle.synthesis.proofs.settling.find_row.Given as goal

-- a row is gone through, in the arrays that were lent
abbrev pub invariant-loop-left : goal.invariant-loop-left
invariant-loop-left l =
    Settling l.names.lines l.i l.from l.initial.table.table.now l.table.table.now l.initial.words.start l.words.start l.initial.words.words.now l.words.words.now l.a l.left
    × (l.table.table.ghost_name ≡ l.initial.table.table.ghost_name)
    × (l.table.inverse.ghost_name ≡ l.initial.table.inverse.ghost_name)
    × (l.words.words.ghost_name ≡ l.initial.words.words.ghost_name)

abbrev pub decreases-loop-left : goal.decreases-loop-left
decreases-loop-left l = l.left
