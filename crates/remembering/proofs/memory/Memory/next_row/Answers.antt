-- `remembering::memory::Memory::next_row` meets its contract: none of the rows that are passed at once has a pair. Assumes nothing.
use Rattle.std.proofs.Common.{◌-◌, ◌<◌, drop, get_or-take, get_or-drop, length-take, arith}
use Rattle.remembering.proofs.Reaches.{no_pair_more}
use Rattle.remembering.proofs.memory.Memory.next_row.Goals as goal

pub loop-r-init : goal.loop-r-init
loop-r-init g c =
    let far = c.args.self.now.far in
    let run = c.settled_run-run.ensures in
    no_pair_more _ _ _ c.requires.2
    (λ k lt.
    let inside : k < c.args.m - c.args.i = omega (arith, run.0, length-take (c.args.m - c.args.i) (drop c.args.i far)) in
    rw (get_or-take (c.args.m - c.args.i) (drop c.args.i far) k 0 inside, get_or-drop c.args.i far k 0) at (run.1 k lt))
