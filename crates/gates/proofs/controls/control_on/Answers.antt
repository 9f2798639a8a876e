-- `gates::controls::control_on` meets its contract: two bits to a line are a digit in base 4. Assumes nothing.
use mathlib.Core.Path.{◌≡◌, refl}
use Prim.Native.Nat.{ℕ, zero, suc, ◌*◌, ◌^◌}
use native.Mathlib.Nat.{pow-suc}
use native.Mathlib.Omega.{arith}
use Rattle.digits.specs.Digits.{digit}
use Rattle.gates.proofs.controls.control_on.Goals as goal

two_bits : (k : ℕ) → 2 ^ (2 * k) ≡ 4 ^ k
two_bits zero = refl
two_bits (suc k) =
    let e : 2 * suc k ≡ suc (suc (2 * k)) = omega arith in
    rw (e, pow-suc, pow-suc, pow-suc 4 k, two_bits k) (omega arith)

pub returns : goal.returns
unfolding digit
returns c = rw two_bits
