use Rattle.std.proofs.Common.{◌≡◌, ◌+◌, ◌*◌}
use Rattle.ranges.proofs.Fills.{Filling}
use Rattle.remembering.proofs.memory.Memory.start.Given as goal

abbrev pub invariant-loop-r : goal.invariant-loop-r
invariant-loop-r g l =
    (l.self ≡ record l.initial.self { far = l.self.far }) × Filling (λ r. r + 1) l.initial.self.far l.self.far l.r

abbrev pub invariant-loop-s : goal.invariant-loop-s
invariant-loop-s g l =
    (l.self ≡ record l.initial.self { reach = l.self.reach }) × Filling (λ s. 16 * s + 16) l.initial.self.reach l.self.reach l.s
