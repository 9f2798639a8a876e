-- The number that a record is, where a gate or a gap stands: moved to another place, and as the number of its gate. Assumes nothing.
use Rattle.std.proofs.Common.{◌≡◌, sym, ap, ◌∙◌, List, ℕ, zero, suc, ◌+◌, ◌*◌, ◌^◌, ◌<◌, ◌≤◌, arith, length, get_or}
use Rattle.std.proofs.Math.Seq.{sets, length-sets}
use Rattle.ranges.proofs.Stores.{get_d_sets, get_d_sets_below, get_d_sets_above}
use Rattle.digits.specs.Digits.{pack}
use Rattle.digits.proofs.Digits.{digit_zero, digit_lt}
use Rattle.digits.proofs.Packs.{pack_ext, pack_digits}
use Rattle.gates.specs.declared.Gate.{Gate}
use Rattle.gates.specs.Gates.{control}
use Rattle.gates.specs.Records.{record_of}
use Rattle.gates.specs.Inner.Words.{byte, Word, bytes_in, gate_of, GateWord}
use Rattle.gates.proofs.Bytes.{byte_in, byte_one, length_word}
use Rattle.remembering.specs.Inner.Buffers.{GateOrGap, RecordMoved}

-- record p, read and stored at place q
pub moved_word : (s : List ℕ) (p q w : ℕ) → 8 * q + 8 ≤ length s → Word s (8 * p) w → RecordMoved s (sets s (8 * q) (bytes_in w)) p q
moved_word s p q w room read =
    record {
      len = length-sets s (8 * q) (bytes_in w);
      here = λ k l. get_d_sets (bytes_in w) s (8 * q) k 0 (omega (arith, length_word w)) (omega (arith, length_word w)) ∙ byte_in w k l ∙ read.bytes k l;
      below = λ y l. get_d_sets_below (bytes_in w) s (8 * q) y 0 l;
      above = λ y l. get_d_sets_above (bytes_in w) s (8 * q) y 0 (omega (arith, length_word w));
    }

-- ---- the number of a gate

module _ (w : ℕ) (g : Gate) (is : bytes_in w ≡ record_of g) (ok : GateOrGap g) where
  byte_is : (k : ℕ) → k < 8 → byte k w ≡ get_or (record_of g) k 0
  byte_is k l = sym (byte_in w k l) ∙ ap (λ (s : List ℕ). get_or s k 0) is

  line_is : (k : ℕ) → k < 6 → byte (2 + k) w ≡ control g k
  unfolding record_of
  line_is zero l = byte_is 2 (omega arith)
  line_is (suc zero) l = byte_is 3 (omega arith)
  line_is (suc (suc zero)) l = byte_is 4 (omega arith)
  line_is (suc (suc (suc zero))) l = byte_is 5 (omega arith)
  line_is (suc (suc (suc (suc zero)))) l = byte_is 6 (omega arith)
  line_is (suc (suc (suc (suc (suc zero))))) l = byte_is 7 (omega arith)
  line_is (suc (suc (suc (suc (suc (suc k)))))) l = absurd (omega arith)

  pub gate_word : gate_of w ≡ g
  unfolding gate_of record_of
  gate_word =
      let o = byte_is 0 (omega arith) in
      let t = byte_is 1 (omega arith) in
      let c : pack 4 (λ k. byte (2 + k) w) 6 ≡ g.controls = pack_ext 4 (λ k. byte (2 + k) w) (control g) 6 line_is ∙ pack_digits 4 6 g.controls (omega arith) ok.packed in
      λ i. record { operator = o i; target = t i; controls = c i }

  pub word_known : w < 256 ^ 8 → GateWord w
  unfolding record_of
  word_known small =
      record {
        small = small;
        lines = record { each = λ k l. rw (line_is k l) (digit_lt 4 k g.controls (omega arith)) };
        op_high = rw (← digit_zero 256 w, byte_is 0 (omega arith)) ok.op_high;
        on_line = rw (← byte_one w, byte_is 1 (omega arith)) ok.on_line;
      }
