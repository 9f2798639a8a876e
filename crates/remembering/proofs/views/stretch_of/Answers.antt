-- `remembering::views::stretch_of` meets its contract: the sets of the places before k are put together. Assumes nothing.
use Rattle.std.proofs.Common.{◌<◌, length, ap, ◌∙◌, arith}
use Rattle.remembering.specs.Inner.LentBuffers.{held}
use Rattle.remembering.specs.Inner.Views.{view_of, kind_of}
use Rattle.remembering.proofs.Buffers.{length_gates}
use Rattle.remembering.proofs.Stretches.{passed_next}
use Rattle.remembering.proofs.views.stretch_of.Goals as goal

pub loop-k-preserved : goal.loop-k-preserved
loop-k-preserved c =
    let inside : c.loop-k.k < length (held c.args.buffer.now) = rw (length_gates c.args.buffer.now.bytes.now c.args.buffer.now.count) (omega arith) in
    let same = c.word-w.ensures.1 in
    rw (c.view-types.ensures ∙ ap view_of same, c.kind-kinds.ensures ∙ ap kind_of same) (passed_next _ _ _ _ c.args.buffer.now.holds.gates inside c.loop-k.invariant)
