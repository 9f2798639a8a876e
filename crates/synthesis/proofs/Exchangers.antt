-- The operator `exchanger x y` is N, D or E; it takes x to y and leaves the third digit value alone. Assumes nothing.
use Rattle.std.proofs.Common.{◌≡◌, ℕ, ◌≤◌, ◌<◌, arith}
use Rattle.std.proofs.lemmas.Bool.Decides.{nat_tests}
use Rattle.gates.specs.Gates.{act}
use Rattle.synthesis.specs.Synthesis.{exchanger}

-- N, D or E
pub exchanger_op : (x y : ℕ) → (3 ≤ exchanger x y) × (exchanger x y ≤ 5)
unfolding exchanger
exchanger_op x y = grind (arith, nat_tests)

pub exchanger_there : (x y : ℕ) → x < 3 → y < 3 → (x ≡ y → ⊥) → act (exchanger x y) x ≡ y
unfolding act exchanger
exchanger_there x y lx ly ne = grind (arith, nat_tests)

pub exchanger_third : (x y z : ℕ) → x < 3 → y < 3 → z < 3 → (x ≡ y → ⊥) → (z ≡ x → ⊥) → (z ≡ y → ⊥) → act (exchanger x y) z ≡ z
unfolding act exchanger
exchanger_third x y z lx ly lz nxy nzx nzy = grind (arith, nat_tests)
