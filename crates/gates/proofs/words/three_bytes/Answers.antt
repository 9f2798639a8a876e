-- `gates::words::three_bytes` meets its contract: the product is computed for each three controls. Assumes nothing.
use native.Mathlib.Omega.{arith}
use Rattle.gates.proofs.Bytes.{three_spread}
use Rattle.gates.proofs.words.three_bytes.Goals as goal

pub returns : goal.returns
returns c =
    let is = three_spread _ c.requires in
    (is, omega (arith, is))
