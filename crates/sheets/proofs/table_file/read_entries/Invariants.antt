-- The entries before entry i stand in the table. Assumes nothing.
use Rattle.std.proofs.Common.{List, ℕ, ◌+◌, ◌*◌, get_or}
use Rattle.ranges.proofs.Fills.{Filling}
use Rattle.sheets.proofs.table_file.read_entries.Given as goal

abbrev pub entry_of : List ℕ → ℕ → ℕ
entry_of f i = get_or f (1 + 2 * i) 0 + 256 * get_or f (2 + 2 * i) 0

abbrev pub invariant-loop-i : goal.invariant-loop-i
invariant-loop-i l = Filling (entry_of l.file) l.initial.table l.table l.i
