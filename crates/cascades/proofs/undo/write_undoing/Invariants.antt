use Rattle.std.proofs.Common.{◌≡◌, List, ℕ, ◌+◌, ◌-◌, ◌*◌, ◌/◌, ◌≤◌, length}
use Rattle.std.proofs.lemmas.List.Edits.{sets}
use Rattle.ranges.specs.Ranges.{span}
use Rattle.gates.specs.declared.Gate.{Gate}
use Rattle.gates.specs.Gates.{inverse}
use Rattle.cascades.specs.Cascades.{gate_in, bytes_of}
use Rattle.cascades.specs.Inner.Checked.{Whole}
use Rattle.cascades.proofs.undo.write_undoing.Given as goal

-- gate i of the inverse
abbrev pub back : List ℕ → ℕ → ℕ → Gate
back b m i = inverse (gate_in b (m - (i + 1)))

pub record Going (n : ℕ) (b : List ℕ) (m : ℕ) (room₀ room : List ℕ) (i : ℕ) : Type 0 where
  pub whole : Whole n b m
  pub within : i ≤ m
  pub long : length room ≡ length room₀
  pub fits : m ≤ length room₀ / 8
  pub left : sets room (8 * i) (bytes_of (span (back b m) i (m - i))) ≡ sets room₀ 0 (bytes_of (span (back b m) 0 m))

abbrev pub invariant-loop-i : goal.invariant-loop-i
invariant-loop-i l =
    Going l.lines l.cascade l.m l.initial.room l.room l.i

abbrev pub decreases-loop-i : goal.decreases-loop-i
decreases-loop-i l =
    l.m - l.i
