use Rattle.std.proofs.Common.{◌≡◌, ◌≤◌, ◌*◌, [], get_or}
use Rattle.digits.specs.Digits.{pack}
use Rattle.tabulating.specs.Inner.Planes.{digit_on}
use Rattle.tabulating.proofs.shown_entries.read_entry.Given as goal

abbrev pub invariant-loop-k : goal.invariant-loop-k
invariant-loop-k l = record {
  low : l.entry ≤ 2187 * l.k;
  is : l.entry ≡ pack 3 (λ i. digit_on (get_or l.planes i []) l.p) l.k;
}
