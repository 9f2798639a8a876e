use Rattle.std.proofs.Common.{◌≡◌, ◌*◌}
use Rattle.remembering.specs.Inner.Rows.{NoPairBefore}
use Rattle.remembering.proofs.rows.settled_run.Given as goal

abbrev pub invariant-loop-sixteen : goal.invariant-loop-sixteen
invariant-loop-sixteen l = (l.run ≡ 16 * l.sixteen-index) × NoPairBefore l.numbers l.run
