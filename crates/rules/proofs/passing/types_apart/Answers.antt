-- `rules::passing::types_apart` meets its contract: the number has the right bit for each two operators, which is computed. Assumes nothing.
use Rattle.std.proofs.Common.{◌≡◌, ℕ, ◌+◌, ◌*◌, ◌/◌, ◌%◌, ◌^◌, ◌<◌, Bool, not, eqb, refl}
use Rattle.std.specs.Bool.{beq}
use Rattle.ranges.specs.Ranges.{every}
use Rattle.ranges.proofs.Tests.{every_below}
use Rattle.ranges.proofs.Triples.{beq_same}
use Rattle.rules.specs.Places.{is_c, same_type}
use Rattle.rules.proofs.passing.types_apart.Goals as goal

bit_test : ℕ → ℕ → Bool
bit_test a b = beq (eqb (0x1f2f_3739_393e / 2 ^ (8 * a + b) % 2) 1) (not (same_type a b))

bit_is : (a b : ℕ) → a < 6 → b < 6 → eqb (0x1f2f_3739_393e / 2 ^ (8 * a + b) % 2) 1 ≡ not (same_type a b)
unfolding bit_test every same_type is_c
bit_is a b la lb = beq_same _ _ (every_below (bit_test a) 6 (every_below (λ x. every (bit_test x) 0 6) 6 refl a la) b lb)

pub returns : goal.returns
returns c = bit_is _ _ c.requires.0 c.requires.1
