-- `tidying::repeating::tidy_with` meets its contract: the steps leave what tidying leaves, with gaps, which are closed then. Assumes nothing.
use Rattle.std.proofs.Common.{◌∙◌, rules, arith}
use Rattle.cascades.proofs.Cascades.{gates_count}
use Rattle.remembering.proofs.Buffers.{holds_list}
use Rattle.tidying.proofs.Repetitions.{tidied_done}
use Rattle.tidying.proofs.repeating.tidy_with.Goals as goal

pub new-buffer-requires : goal.new-buffer-requires
new-buffer-requires g c =
    let b = c.args.b.now in
    let same = holds_list b _ c.args.m c.requires.0.holds (gates_count b ∙ omega (arith, c.requires.0.size)) in
    (c.requires.0.few, rw same c.requires.0.holds)

pub returns : goal.returns
returns g c =
    let count = c.repeat_steps-steps.ensures.same_records.1 ∙ c.new-buffer.ensures.value.1 in
    let done = rw c.new-buffer.ensures.value.0 at c.repeat_steps-steps.ensures.tidy_held in
    let d = c.close_gaps-left.ensures in
    tidied_done _ _ _ _ c.repeat_steps-steps.new.buffer _ _ _ d.0 d.1 c.clear_from.ensures done count c.requires.0.size (search rules) (search rules)
