use Rattle.std.proofs.Common.{◌≡◌, ◌==◌, ◌%◌, count_by, take}
use Rattle.remembering.specs.Inner.Rows.{settled_mark}
use Rattle.remembering.proofs.rows.count_rows.Given as goal

abbrev pub invariant-loop-n : goal.invariant-loop-n
invariant-loop-n l = l.count ≡ count_by (λ n. n % settled_mark == l.p) (take l.n-index l.numbers)
