use Rattle.std.proofs.Common.{◌≡◌, ◌*◌, ◌≤◌}
use Rattle.remembering.specs.Inner.LentBuffers.{held}
use Rattle.remembering.specs.Inner.Rows.{Clear}
use Rattle.remembering.specs.Inner.Views.{StretchesMarked}
use Rattle.remembering.proofs.memory.Memory.pass_stretches.Given as goal

abbrev pub invariant-loop-s : goal.invariant-loop-s
invariant-loop-s g l =
    (StretchesMarked (held l.buffer) l.self.marks × (l.from ≤ 16 * l.s) × Clear (held l.buffer) l.i (16 * l.s))
    × (l.self.far ≡ l.initial.self.far) × (l.self.reach ≡ l.initial.self.reach)
