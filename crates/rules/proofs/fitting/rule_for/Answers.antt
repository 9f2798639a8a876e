-- `rules::fitting::rule_for` meets its contract: equal marks are equal sets of lines, and the other marks are counted. Assumes nothing.
use mathlib.Core.Path.{◌≡◌, sym, ◌∙◌}
use lib.Dec.{eqb}
use borrow.Author.Tests.{eq-eqb, ne_eqb}
use Rattle.gates.specs.Inner.Words.{gate_of}
use Rattle.gates.proofs.Bytes.{byte_high}
use Rattle.rules.specs.Rules.{same_lines}
use Rattle.rules.proofs.FittingPairs.{rule_lines}
use Rattle.rules.proofs.PairWords.{marks_same, rule_counted}
use Rattle.rules.proofs.fitting.rule_for.Goals as goal
use Rattle.rules.proofs.fitting.rule_for.Goals.{After-mark_controls-2}

-- equal marks, and one target
module _ (c : After-mark_controls-2) where
  lines_are : same_lines (gate_of c.args.g) (gate_of c.args.h) ≡ eqb c.mark_controls.result c.mark_controls-2.result
  unfolding same_lines
  lines_are =
      rw (eq-eqb _ _ (c.may_fit.ensures.0 (c.if-not-may_fit.false)), c.mark_controls.ensures, c.mark_controls-2.ensures)
      (sym (marks_same c.args.g c.args.h c.requires.0.lines c.requires.1.lines))

pub returns-then-mark_controls : goal.returns-then-mark_controls
returns-then-mark_controls c = sym (rule_lines _ _ ∙ rw (lines_are (goal.at.returns-then-mark_controls c).After-mark_controls-2, ne_eqb _ _ c.if-mark_controls.true))

pub mark_others-apart-requires : goal.mark_others-apart-requires
mark_others-apart-requires c = (c.requires.0.lines, λ k l. rw (byte_high k c.args.h) (c.requires.1.lines.each k l))

pub returns : goal.returns
returns c =
    c.rule_by.ensures
    ∙ rw c.mark_others-apart.ensures (rule_counted c.args.g c.args.h c.requires.0.lines c.requires.1.lines (lines_are (goal.at.returns c).After-mark_controls-2 ∙ eq-eqb _ _ c.if-mark_controls.false))
