-- `gates::words::gate_of` meets its contract. Assumes nothing.
use mathlib.Core.Path.{sym}
use Rattle.digits.proofs.Digits.{digit_zero}
use Rattle.gates.specs.Inner.Words.{gate_of}
use Rattle.gates.proofs.Bytes.{byte_one}
use Rattle.gates.proofs.words.gate_of.Goals as goal

pub returns : goal.returns
unfolding gate_of
returns c =
    let o = sym (digit_zero 256 c.args.w) in
    let t = sym (byte_one c.args.w) in
    λ i. record { operator = o i; target = t i; controls = c.packed_controls.ensures.0 i }
