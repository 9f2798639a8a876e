-- `remembering::buffer::Buffer::word` meets its contract: the word read is that of the gate that stands there. Assumes nothing.
use Rattle.std.proofs.Common.{◌≡◌, sym, ap, ◌∙◌, ◌*◌, ◌<◌, arith, length}
use Rattle.gates.specs.declared.Gate.{Gate}
use Rattle.gates.specs.Inner.Words.{gate_of}
use Rattle.gates.proofs.Bytes.{control_byte, word_gate, operator_word, target_word}
use Rattle.rules.specs.Tidying.{gate}
use Rattle.remembering.specs.Inner.Buffers.{gates_in}
use Rattle.remembering.proofs.Buffers.{length_gates, gate_in_lem, holds_fits, holds_gate, holds_lines}
use Rattle.remembering.proofs.buffer.Buffer.word.Goals as goal
use Rattle.remembering.proofs.buffer.Buffer.word.Goals.{Start}

module _ (c : Start) where
  inside : c.args.k < length (gates_in c.args.self.now.bytes.now c.args.self.now.count)
  inside = rw (length_gates c.args.self.now.bytes.now c.args.self.now.count) c.requires

pub overflow_mul-k : goal.overflow_mul-k
overflow_mul-k c = omega (arith, holds_fits _ _ c.args.self.now.holds _ (inside (goal.at.overflow_mul-k c).Start))

pub word_at-requires : goal.word_at-requires
word_at-requires c = holds_fits _ _ c.args.self.now.holds _ (inside (goal.at.word_at-requires c).Start)

pub returns : goal.returns
returns c =
    let b = c.args.self.now.bytes.now in
    let same : gate_of c.word_at.result ≡ gate (gates_in c.args.self.now.bytes.now c.args.self.now.count) c.args.k =
    sym (word_gate c.args.self.now.bytes.now (8 * c.args.k) c.word_at.result c.word_at.ensures) ∙ sym (gate_in_lem c.args.self.now.bytes.now c.args.self.now.count c.args.k c.requires) in
    let ok = holds_gate _ _ c.args.self.now.holds _ (inside (goal.at.returns c).Start) in (
      record {
        small = c.word_at.ensures.low;
        lines = record { each = λ k l. rw (control_byte c.args.self.now.bytes.now (8 * c.args.k) c.word_at.result c.word_at.ensures k l) (holds_lines _ _ c.args.self.now.holds _ (inside (goal.at.returns c).Start) k l) };
        op_high = omega (arith, operator_word c.word_at.result, ap (λ (g : Gate). g.operator) same, ok.op_high);
        on_line = omega (arith, target_word c.word_at.result, ap (λ (g : Gate). g.target) same, ok.on_line);
      },
      same,
    )
