-- How many patterns there are: at most 729 on six lines, and at least one on any number of lines. Assumes nothing.
use Prim.Native.Nat.{ℕ, ◌^◌, ◌≤◌, ◌<◌}
use native.Mathlib.Nat.{pow-le-pow_right, one-le-pow}
use native.Mathlib.Omega.{arith}

pub three_pos : 0 < 3
three_pos = omega arith

pub patterns_most : (n : ℕ) → n ≤ 6 → 3 ^ n ≤ 729
patterns_most n le = pow-le-pow_right {n = 3} (omega arith) {i = n} {j = 6} le

pub patterns_some : (r n : ℕ) → 0 < r → 0 < r ^ n
patterns_some r n pos = one-le-pow n r pos
