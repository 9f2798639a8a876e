use Rattle.std.proofs.Common.{◌≡◌, ◌-◌, length}
use Rattle.tables.proofs.Inverses.{Inverting}
use Rattle.tables.proofs.entries.invert_entries.Given as goal

abbrev pub invariant-loop-i : goal.invariant-loop-i
invariant-loop-i l =
    (length l.inverse ≡ length l.initial.inverse) × Inverting l.table l.inverse l.i

abbrev pub decreases-loop-i : goal.decreases-loop-i
decreases-loop-i l =
    length l.table - l.i
