use Rattle.std.proofs.Common.{◌≡◌, ℕ, length, ◌≤◌, ◌<◌, ◌+◌, [], get_or}
use Rattle.tabulating.specs.Inner.Planes.{ShownUpTo, LineUpTo}
use Rattle.tabulating.proofs.untouched.lay_input.Given as goal

abbrev pub invariant-loop-k : goal.invariant-loop-k
invariant-loop-k l = record {
  long : length l.planes ≡ 6;
  done : ShownUpTo l.initial.planes l.p → (i : ℕ) → i < 6 → i < l.k → LineUpTo i (get_or l.planes i []) (l.p + 1);
  left : ShownUpTo l.initial.planes l.p → (i : ℕ) → i < 6 → l.k ≤ i → LineUpTo i (get_or l.planes i []) l.p;
}
