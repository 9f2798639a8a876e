-- `gates::decode` meets its contract: each return is a case of `decoded`, by the test that led there. Assumes nothing.
use Rattle.std.proofs.Common.{◌+◌, ◌≤◌, length, Ok, sym, ap, ◌∙◌, leb-true}
use Rattle.std.proofs.lemmas.Result.{err_from_is_err_and}
use Rattle.gates.proofs.Records.{decoded_lines, decoded_not, record_short}
use Rattle.gates.proofs.Bytes.{word_decoded, word_low}
use Rattle.gates.proofs.decode.Goals as goal
use Rattle.gates.proofs.decode.Goals.{Else-not-ends_by}

module _ (c : Else-not-ends_by) where
  whole : c.args.at + 8 ≤ length c.args.bytes.now
  whole = leb-true _ _ (sym c.ends_by.ensures ∙ c.if-not-ends_by.false)

pub returns-in_err-check_lines : goal.returns-in_err-check_lines
returns-in_err-check_lines c =
    let p = err_from_is_err_and c.from_residual.result c.from_residual.ensures.1 in
    rw (p.1, p.2, c.in_err-check_lines.ensures.1) (sym (decoded_lines _ _ _ c.in_err-check_lines.ensures.0))

pub returns-then-not-ends_by : goal.returns-then-not-ends_by
returns-then-not-ends_by c = sym (decoded_not _ _ _ c.in_ok-check_lines.ensures (record_short _ _ _ (sym c.ends_by.ensures ∙ c.if-not-ends_by.true)))

pub returns-then-not-is_gate : goal.returns-then-not-is_gate
returns-then-not-is_gate c =
    let no = sym c.is_gate.ensures ∙ c.if-not-is_gate.true in
    sym (word_decoded _ _ _ c.word_at-w.ensures _ c.in_ok-check_lines.ensures (whole (goal.at.returns-then-not-is_gate c).Else-not-ends_by) ∙ rw no)

pub gate_of-requires : goal.gate_of-requires
gate_of-requires c = word_low _ _ (sym c.is_gate.ensures ∙ c.if-not-is_gate.false)

pub returns : goal.returns
returns c =
    let yes = sym c.is_gate.ensures ∙ c.if-not-is_gate.false in
    ap Ok c.gate_of.ensures ∙ sym (word_decoded _ _ _ c.word_at-w.ensures _ c.in_ok-check_lines.ensures (whole (goal.at.returns c).Else-not-ends_by) ∙ rw yes)
