-- `texts::laying::put_gate` meets its contract: the operator with the target, the controls and the newline, one behind the other. Assumes nothing.
use Rattle.std.proofs.Common.{arith}
use Rattle.texts.proofs.TextParts.{word_parts}
use Rattle.texts.proofs.Appends.{append_next, append_byte}
use Rattle.texts.proofs.laying.put_gate.Goals as goal

pub returns : goal.returns
returns c =
    let done = c.put_controls-done.ensures in
    let line = append_next c.put_operator-aimed.ensures.0 done.0 in
    (rw (word_parts _ c.args.w) (append_next line (append_byte _ _ _ (omega (arith, done.1, line.long, c.told-line)))), omega (arith, done.1))
