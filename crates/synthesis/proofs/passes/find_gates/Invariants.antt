use Rattle.std.proofs.Common.{ℕ, List}
use Rattle.synthesis.specs.Inner.TableSteps.{rows_from, TableReached, WordsLaid}
use Rattle.synthesis.proofs.passes.find_gates.Given as goal

-- the rows below i are done
pub record RowsSettled (n i : ℕ) (t₀ t : List ℕ) (e e' : ℕ) (ws₀ ws : List ℕ) : Type 0 where
  pub at : TableReached n (rows_from n i t₀) t
  pub laid : WordsLaid (rows_from n i t₀).found e e' ws₀ ws

abbrev pub invariant-loop-i : goal.invariant-loop-i
invariant-loop-i l = RowsSettled l.n l.i l.initial.table.table.now l.table.table.now l.words.start l.initial.words.start l.initial.words.words.now l.words.words.now
