-- `rules::passing::blocks_gate` meets its contract: the number has the right bit for each operator and value, which is computed. Assumes nothing.
use Rattle.std.proofs.Common.{◌≡◌, ℕ, ◌+◌, ◌*◌, ◌/◌, ◌%◌, ◌^◌, ◌<◌, Bool, not, ◌&&◌, eqb, refl}
use Rattle.std.specs.Bool.{beq}
use Rattle.ranges.specs.Ranges.{every}
use Rattle.ranges.proofs.Tests.{every_below}
use Rattle.ranges.proofs.Triples.{beq_same}
use Rattle.gates.proofs.Bytes.{operator_word, target_word}
use Rattle.rules.specs.Places.{is_c, upsets, blocks}
use Rattle.rules.proofs.PairWords.{operator_lt}
use Rattle.rules.proofs.passing.blocks_gate.Goals as goal

bit_test : ℕ → ℕ → Bool
bit_test o v = beq (eqb (0x36_5770 / 2 ^ (4 * o + v) % 2) 1) (not (eqb v 3) && upsets o v)

bit_is : (o v : ℕ) → o < 6 → v < 4 → eqb (0x36_5770 / 2 ^ (4 * o + v) % 2) 1 ≡ (not (eqb v 3) && upsets o v)
unfolding bit_test every upsets is_c
bit_is o v lo lv = beq_same _ _ (every_below (bit_test o) 4 (every_below (λ x. every (bit_test x) 0 4) 6 refl o lo) v lv)

pub returns : goal.returns
unfolding blocks
returns c = rw (operator_word c.args.g, target_word c.args.g, ← c.control_in-v.ensures.0) (bit_is _ _ (operator_lt _ c.requires.0) c.control_in-v.ensures.1)
