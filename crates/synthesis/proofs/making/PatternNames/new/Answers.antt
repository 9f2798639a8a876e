-- `synthesis::making::PatternNames::new` meets its contract: the controls so far are those that name the patterns. Assumes nothing.
use Rattle.std.proofs.Common.{◌∙◌, arith, length-set}
use Rattle.digits.proofs.Sizes.{patterns_most}
use Rattle.synthesis.proofs.Controls.{shift_fits, full_lt, full_made, names_more}
use Rattle.synthesis.proofs.making.PatternNames.new.Goals as goal

pub overflow_sub-none : goal.overflow_sub-none
overflow_sub-none c = shift_fits _ c.requires

pub quad_of-requires : goal.quad_of-requires
quad_of-requires c = omega (arith, patterns_most _ c.requires)

pub overflow_add-controls : goal.overflow_add-controls
overflow_add-controls c = omega (arith, full_made _ c.loop-p.p _ c.requires (omega arith) c.quad_of.ensures, full_lt c.args.n c.loop-p.p)

pub bounds-controls-p : goal.bounds-controls-p
bounds-controls-p c = omega (arith, patterns_most _ c.requires)

pub loop-p-preserved : goal.loop-p-preserved
loop-p-preserved c =
    let g = c.loop-p.invariant in
    (length-set _ _ _ ∙ g.0, names_more _ _ _ _ g.1 (omega arith) (omega (arith, g.0, patterns_most _ c.requires)) c.quad_of.ensures)
