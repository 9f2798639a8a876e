-- `rules::fitting::may_fit` meets its contract: each rule asks for one target, and for equal operators or the inverse. Assumes nothing.
use mathlib.Core.Path.{◌≡◌, refl}
use mathlib.Core.Bool.{true, false}
use lib.Dec.{eqb}
use borrow.Author.Tests.{ne_eqb}
use Rattle.ranges.proofs.Bools.{clash}
use Rattle.gates.specs.Gates.{inverse_op}
use Rattle.gates.specs.Inner.Words.{gate_of}
use Rattle.gates.proofs.Bytes.{operator_word, target_word}
use Rattle.rules.specs.Rules.{same_lines, cancels, merges, reduces}
use Rattle.rules.specs.Inner.NamedRules.{rule_for}
use Rattle.rules.proofs.FittingPairs.{types_off}
use Rattle.rules.proofs.fitting.may_fit.Goals as goal
use Rattle.rules.proofs.fitting.may_fit.Goals.{Else-g-h}

module _ (c : Else-g-h) where
  one_target : (gate_of c.args.g).target ≡ (gate_of c.args.h).target
  one_target = rw (target_word c.args.g, target_word c.args.h) c.if-g-h.false

pub returns-then-g-h : goal.returns-then-g-h
unfolding rule_for cancels merges reduces same_lines
returns-then-g-h c = (λ e. clash false e refl, λ e. rw (target_word c.args.g, target_word c.args.h, ne_eqb _ _ c.if-g-h.true))

pub returns-then-g-h-2 : goal.returns-then-g-h-2
returns-then-g-h-2 c = (λ e. one_target (goal.at.returns-then-g-h-2 c).Else-g-h, λ e. clash true refl e)

pub returns : goal.returns
returns c = (
  λ e. one_target (goal.at.returns c).Else-g-h,
  λ e.
      let back : eqb (gate_of c.args.h).operator (inverse_op (gate_of c.args.g).operator) ≡ false = rw (operator_word c.args.h, operator_word c.args.g, ← c.invert_op.ensures) e in
      types_off _ _ back (rw (operator_word c.args.g, operator_word c.args.h) (ne_eqb _ _ c.if-g-h-2.false)),
)
