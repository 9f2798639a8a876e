-- `remembering::views::kind` meets its contract: a gap has no kind, a gate the bit for its control lines. Assumes nothing.
use Rattle.std.proofs.Common.{sym, ◌∙◌, ap, ℕ, ◌^◌, arith}
use Rattle.remembering.specs.Inner.Views.{six_bits}
use Rattle.remembering.proofs.Stretches.{kind_none, kind_word, shifted_bit}
use Rattle.remembering.proofs.views.kind.Goals as goal

pub returns-then-w-eq0 : goal.returns-then-w-eq0
returns-then-w-eq0 c = sym (kind_none c.args.w c.requires.lines c.if-w-eq0.true)

pub returns : goal.returns
returns c =
    rw (shifted_bit c.fold_marks.result c.fold_marks.ensures.1)
    (ap (λ (x : ℕ). 2 ^ x) (c.fold_marks.ensures.0 ∙ ap six_bits c.mark_controls.ensures) ∙ sym (kind_word c.args.w c.requires.lines (λ e. omega (arith, e, c.if-w-eq0.false))))
