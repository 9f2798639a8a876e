-- Reading what is left is reading all. Assumes nothing.
use Rattle.std.proofs.Common.{◌≡◌, drop}
use Rattle.serials.specs.Serials.{serial, fed}
use Rattle.serials.proofs.scanning.read.Given as goal

abbrev pub invariant-loop-b : goal.invariant-loop-b
invariant-loop-b l =
    fed (serial l.s l.entries) (drop l.b-index l.bytes) ≡ fed (serial l.initial.s l.initial.entries) l.bytes
