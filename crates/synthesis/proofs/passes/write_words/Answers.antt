-- `synthesis::passes::write_words` meets its contract: one record more is stored. Assumes nothing.
use Rattle.std.proofs.Common.{List, ℕ, ◌*◌, get_or, ap, ◌∙◌}
use Rattle.std.proofs.Math.Seq.{sets}
use Rattle.gates.specs.Inner.Words.{bytes_in}
use Rattle.synthesis.proofs.Layings.{stored_more}
use Rattle.synthesis.proofs.passes.write_words.Goals as goal

pub loop-j-preserved : goal.loop-j-preserved
loop-j-preserved c =
    let j = c.loop-j.j in
    c.store.ensures ∙ ap (λ (x : List ℕ). sets x (8 * j) (bytes_in (get_or c.args.words.now j 0))) c.loop-j.invariant ∙ stored_more _ _ _ c.loop-j-test.true
