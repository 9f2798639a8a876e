-- `tidying::repeating::repeat_steps` meets its contract: after so many steps the buffer holds what they leave, with gaps; steps cannot outnumber
-- gates and controls. Assumes nothing.
use Rattle.std.proofs.Common.{◌≤◌, refl, ◌∙◌, arith}
use Rattle.cascades.specs.Cascades.{gates_of}
use Rattle.cascades.proofs.Cascades.{gates_count}
use Rattle.rules.specs.Tidying.{gates_and_controls}
use Rattle.tidying.proofs.Repetitions.{size_le, stepping_start, stepping_next, stepping_end}
use Rattle.tidying.proofs.repeating.repeat_steps.Goals as goal

pub loop-pair-init : goal.loop-pair-init
loop-pair-init g c = ((refl, refl), stepping_start _ _ c.requires.0 (c.start.ensures.fresh c.requires.1 c.requires.2))

pub overflow_add-steps : goal.overflow_add-steps
overflow_add-steps g c =
    let f = c.in-Some.ensures in
    let a = c.apply_rule-from.ensures in
    let most : gates_and_controls (gates_of c.args.buffer.now.bytes.now) ≤ 56000 = omega (arith, size_le (gates_of c.args.buffer.now.bytes.now), gates_count c.args.buffer.now.bytes.now, c.requires.0.size, c.requires.0.few) in
    omega (arith, (stepping_next _ _ _ _ _ c.loop-pair.invariant.1 _ _ f.0 f.1 c.apply_rule-from.new.buffer _ _ a.remembers a.gates_after).spent)

pub loop-pair-smaller : goal.loop-pair-smaller
loop-pair-smaller g c =
    let f = c.in-Some.ensures in
    let a = c.apply_rule-from.ensures in
    omega (arith, (stepping_next _ _ _ _ _ c.loop-pair.invariant.1 _ _ f.0 f.1 c.apply_rule-from.new.buffer _ _ a.remembers a.gates_after).spent)

pub loop-pair-preserved : goal.loop-pair-preserved
loop-pair-preserved g c =
    let f = c.in-Some.ensures in
    let a = c.apply_rule-from.ensures in
    let same = c.loop-pair.invariant.0 in (
      (a.same_records.0 ∙ same.0, a.same_records.1 ∙ same.1),
      stepping_next _ _ _ _ _ c.loop-pair.invariant.1 _ _ f.0 f.1 c.apply_rule-from.new.buffer _ _ a.remembers a.gates_after,
    )

pub returns-clause-tidy_held : goal.returns-clause-tidy_held
returns-clause-tidy_held g c = stepping_end _ _ _ _ _ c.loop-pair.invariant.1 _ c.in_default.ensures
