use Rattle.std.proofs.Common.{◌-◌}
use Rattle.remembering.specs.Inner.LentBuffers.{held}
use Rattle.remembering.specs.Inner.Rows.{Clear}
use Rattle.remembering.specs.Inner.Memories.{MemoryTrue}
use Rattle.tidying.proofs.pairs.find_pair.Given as goal

abbrev pub invariant-rows : goal.invariant-rows
invariant-rows g l = MemoryTrue (held l.buffer) l.memory l.buffer.count l.from

abbrev pub decreases-rows : goal.decreases-rows
decreases-rows g l = l.buffer.count - l.from

abbrev pub invariant-loop-j : goal.invariant-loop-j
invariant-loop-j g l = MemoryTrue (held l.buffer) l.memory l.buffer.count l.i × Clear (held l.buffer) l.i l.j

abbrev pub decreases-loop-j : goal.decreases-loop-j
decreases-loop-j g l = l.buffer.count - l.j
