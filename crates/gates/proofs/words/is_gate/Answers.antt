-- `gates::words::is_gate` meets its contract: the tests of `is_word` in turn, the last of all control bytes at once. Assumes nothing.
use mathlib.Core.Path.{sym, ◌∙◌}
use native.Mathlib.Omega.{arith}
use Rattle.card.proofs.Cards.{lines_are}
use Rattle.gates.proofs.Bytes.{kept_lt, lines_asked, word_op_low, word_op_high, word_target, word_lines}
use Rattle.gates.proofs.words.is_gate.Goals as goal

pub returns-then-operator-lt1 : goal.returns-then-operator-lt1
returns-then-operator-lt1 c = sym (word_op_low _ _ c.if-operator-lt1.true)

pub returns-then-operator-gt5 : goal.returns-then-operator-gt5
returns-then-operator-gt5 c = sym (word_op_high _ _ (omega (arith, c.if-operator-gt5.true)))

pub returns-then-n-target : goal.returns-then-n-target
returns-then-n-target c = sym (word_target _ _ (omega (arith, c.if-n-target.true)))

pub bare_bytes-bare-requires : goal.bare_bytes-bare-requires
bare_bytes-bare-requires c = (omega (arith, (lines_are _ c.requires).1, c.from-n.ensures), omega (arith, c.if-n-target.false))

pub overflow_add-result : goal.overflow_add-result
overflow_add-result c = record { fits = rw (c.bare_bytes-bare.ensures, c.from-n.ensures) (kept_lt _ _ (lines_are _ c.requires).1 (omega (arith, c.if-n-target.false))) }

pub returns : goal.returns
returns c =
    rw (c.bare_bytes-bare.ensures, c.from-n.ensures) (lines_asked _ _ (lines_are _ c.requires).1 (omega (arith, c.if-n-target.false)) c.args.w)
    ∙ sym (word_lines _ _ (omega (arith, c.if-operator-lt1.false)) (omega (arith, c.if-operator-gt5.false)) (omega (arith, c.if-n-target.false)))
