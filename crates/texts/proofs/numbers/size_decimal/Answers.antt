-- `texts::numbers::size_decimal` meets its contract: a number has one digit more than its power of ten. Assumes nothing.
use Rattle.std.proofs.Common.{sym, arith}
use Rattle.texts.proofs.Decimals.{width_is, width_small}
use Rattle.texts.proofs.numbers.size_decimal.Goals as goal

pub returns-in-Some-clause-digits : goal.returns-in-Some-clause-digits
returns-in-Some-clause-digits c = width_is c.args.x _ c.in-Some.ensures.bound c.in-Some.ensures.power_le c.in-Some.ensures.next_power_gt

pub returns-in-None-clause-digits : goal.returns-in-None-clause-digits
returns-in-None-clause-digits c = sym (width_small c.args.x (omega (arith, c.in-None.ensures.none)))
