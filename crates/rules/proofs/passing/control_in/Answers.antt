-- `rules::passing::control_in` meets its contract: a byte of the number is the control. Assumes nothing.
use native.Mathlib.Omega.{arith}
use mathlib.Core.Path.{◌≡◌}
use Prim.Native.Nat.{◌*◌, ◌/◌, ◌%◌, ◌^◌}
use Rattle.digits.specs.Digits.{digit}
use Rattle.digits.proofs.Digits.{digit_lt}
use Rattle.gates.specs.Gates.{control}
use Rattle.gates.specs.Inner.Words.{gate_of}
use Rattle.gates.proofs.Bytes.{eight_bits}
use Rattle.rules.proofs.PairWords.{control_in_lem}
use Rattle.rules.proofs.passing.control_in.Goals as goal

pub returns : goal.returns
unfolding digit
returns c =
    let e : c.args.w / 0x1_0000 / 2 ^ (8 * c.args.t) % 256 ≡ control (gate_of c.args.w) c.args.t = rw (eight_bits c.args.t c.requires.1) (control_in_lem c.args.w c.args.t c.requires.0 c.requires.1) in
    (e, rw e (digit_lt 4 c.args.t (gate_of c.args.w).controls (omega arith)))
