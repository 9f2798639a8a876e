-- `pricing::rates::half_points` meets its contract: the array is long, so that its entries are not looked at one by one. Assumes nothing.
use Rattle.std.proofs.Common.{rules}
use Rattle.ranges.proofs.Arrays.{array_entry}
use Rattle.pricing.specs.Inner.Rates.{points_of}
use Rattle.pricing.proofs.rates.half_points.Goals as goal

pub returns : goal.returns
returns c = λ k lt. array_entry _ _ _ 64 (points_of 3 c.args.v) (λ i y q lt h. search rules) c.from_fn.ensures.items k 0 lt
