-- `names::reading::good_line` meets its contract: the gate that is guessed is one on so many lines, and has this line. That the names are the
-- operators' is computed. Assumes nothing.
use Rattle.std.proofs.Common.{◌≡◌, ◌^◌, ◌<◌, take, sym, ap, ◌∙◌, true, arith, eqb, rules, tests}
use Rattle.std.specs.Cmp.Lexicographic.{pointwise}
use Rattle.std.proofs.Math.Seq.{take-length}
use Rattle.std.proofs.lemmas.Bool.Decides.{Decides-eqb}
use Rattle.std.proofs.lemmas.Slice.Eq.{slice_eq-Decides}
use Rattle.gates.specs.Records.{record_of}
use Rattle.gates.specs.Inner.Words.{bytes_in, is_word, gate_of}
use Rattle.texts.specs.GateTexts.{gate_text}
use Rattle.texts.specs.Inner.Names.{name_of, name_in}
use Rattle.names.specs.Names.{other_name}
use Rattle.names.specs.Inner.Guesses.{guessed}
use Rattle.names.proofs.SameTexts.{same_decides}
use Rattle.names.proofs.GoodWords.{good_not, guess_known, good_text}
use Rattle.names.proofs.reading.good_line.Goals as goal
use Rattle.names.proofs.reading.good_line.Goals.{After-is_gate, After-put_gate-size, Else-not-is_gate}

module _ (c : After-is_gate) where
  low : c.word_of-w.result < 256 ^ 8
  low = omega arith

  wrote : bytes_in c.word_of-w.result ≡ record_of (guessed c.args.line.now)
  wrote = c.word_of-w.ensures ∙ ap record_of c.guess_gate.ensures

module _ (c : Else-not-is_gate) where
  is : is_word c.args.lines c.word_of-w.result ≡ true
  is = sym c.is_gate.ensures ∙ c.if-not-is_gate.false

-- what was laid out
module _ (c : After-put_gate-size) where
  text : take c.put_gate-size.result c.put_gate-size.new.line ≡ gate_text other_name (gate_of c.word_of-w.result)
  unfolding name_in name_of other_name
  text = c.put_gate-size.ensures.0.starts

pub returns-then-not-is_gate : goal.returns-then-not-is_gate
returns-then-not-is_gate c =
    let d = goal.at.returns-then-not-is_gate c in
    good_not _ _ _ c.requires (low d.After-is_gate) (wrote d.After-is_gate) (sym c.is_gate.ensures ∙ c.if-not-is_gate.true)

pub put_gate-size-requires : goal.put_gate-size-requires
put_gate-size-requires c =
    let d = goal.at.put_gate-size-requires c in
    guess_known _ _ _ c.requires (low d.After-is_gate) (wrote d.After-is_gate) (is d.Else-not-is_gate)

pub returns : goal.returns
returns c =
    let d = goal.at.returns c in
    let laid = text d.After-put_gate-size in
    let compared : c.eq.result ≡ pointwise eqb (gate_text other_name (gate_of c.word_of-w.result)) c.args.line.now = search (rules, tests, take-length) in
    same_decides _ _ _ (slice_eq-Decides Decides-eqb _ _ _ compared) ∙ good_text _ _ _ c.requires (low d.After-is_gate) (wrote d.After-is_gate) (is d.Else-not-is_gate)
