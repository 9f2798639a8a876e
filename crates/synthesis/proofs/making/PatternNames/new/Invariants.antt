use Rattle.std.proofs.Common.{◌≡◌, length}
use Rattle.synthesis.specs.Inner.TableSteps.{NamesBelow}
use Rattle.synthesis.proofs.making.PatternNames.new.Given as goal

abbrev pub invariant-loop-p : goal.invariant-loop-p
invariant-loop-p l = (length l.controls ≡ 729) × NamesBelow l.n l.p l.controls
