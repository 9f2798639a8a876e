-- `synthesis::making::PatternNames::name` meets its contract: there are at most 729 patterns. Assumes nothing.
use Rattle.std.proofs.Common.{arith}
use Rattle.digits.proofs.Sizes.{patterns_most}
use Rattle.synthesis.proofs.making.PatternNames.name.Goals as goal

pub bounds-self-p : goal.bounds-self-p
bounds-self-p c = let s = c.args.self.now in omega (arith, patterns_most s.lines s.named.lines)
