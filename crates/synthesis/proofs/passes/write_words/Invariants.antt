use Rattle.std.proofs.Common.{◌≡◌, take}
use Rattle.std.proofs.Math.Seq.{sets}
use Rattle.std.specs.List.{flat_map}
use Rattle.gates.specs.Inner.Words.{bytes_in}
use Rattle.synthesis.proofs.passes.write_words.Given as goal

abbrev pub invariant-loop-j : goal.invariant-loop-j
invariant-loop-j l = l.room ≡ sets l.initial.room 0 (flat_map bytes_in (take l.j l.words))
