-- `gates::words::bare_bytes` meets its contract: the weights are powers, and nothing overflows. Assumes nothing.
use Prim.Native.Nat.{◌*◌, ◌/◌, ◌≤◌}
use native.Mathlib.Omega.{arith}
use native.Mathlib.Nat.{div-mul-le_self}
use Rattle.gates.specs.Inner.Words.{bare}
use Rattle.gates.proofs.Bytes.{weight_most, weight_some}
use Rattle.gates.proofs.words.bare_bytes.Goals as goal

-- the two parts
module _ (c : goal.After-weight) where
  beyond : 3311470314243 / c.weight-lines.result * c.weight-lines.result ≤ 3311470314243
  beyond = div-mul-le_self 3311470314243 c.weight-lines.result

  own : c.weight.result ≤ 1099511627776
  own = rw c.weight.ensures (weight_most _ (omega (arith, c.requires.0, c.requires.1)))

pub nonzero_div-result : goal.nonzero_div-result
nonzero_div-result c = rw c.weight-lines.ensures (weight_some _ c.requires.0)

pub overflow_mul-result-2 : goal.overflow_mul-result-2
overflow_mul-result-2 c = record { fits = omega (arith, own c) }

pub overflow_add-result : goal.overflow_add-result
overflow_add-result c = record { fits = omega (arith, own c, beyond c) }

pub overflow_mul-result-3 : goal.overflow_mul-result-3
overflow_mul-result-3 c = record { fits = omega (arith, own c, beyond c) }

pub returns : goal.returns
unfolding bare
returns c = rw (c.weight-lines.ensures, c.weight.ensures)
