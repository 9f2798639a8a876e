use Rattle.ranges.proofs.Fills.{Filling}
use Rattle.tabulating.specs.Inner.Planes.{entry_of}
use Rattle.tabulating.proofs.shown_entries.write_entries.Given as goal

abbrev pub invariant-loop-p : goal.invariant-loop-p
invariant-loop-p l = Filling (entry_of l.planes) l.initial.table l.table l.p
