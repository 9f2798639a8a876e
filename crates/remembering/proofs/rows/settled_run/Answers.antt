-- `remembering::rows::settled_run` meets its contract: none of the next sixteen is less than the least of them. Assumes nothing.
use Rattle.std.proofs.Common.{◌≤◌, ◌/◌, length, arith}
use Rattle.remembering.proofs.Reaches.{sixteens_at, no_pair_more}
use Rattle.remembering.proofs.rows.settled_run.Goals as goal

pub loop-sixteen-preserved : goal.loop-sixteen-preserved
loop-sixteen-preserved c =
    let s = c.args.numbers.now in
    let w = c.loop-sixteen.invariant in
    let least = rw c.as_chunks.ensures.front at c.smallest.ensures in
    let inside = rw c.as_chunks.ensures.front_len at c.loop-sixteen-test.true in (
      omega (arith, w.0),
      no_pair_more s c.loop-sixteen.run 16 w.1 (λ k lt. rw w.0 (omega (arith, c.if-smallest-lt-SETTLED.false, sixteens_at (λ n. c.smallest.result ≤ n) (length s / 16) s _ k (omega arith) inside least lt))),
    )
