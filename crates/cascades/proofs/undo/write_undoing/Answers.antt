-- `cascades::undo::write_undoing` meets its contract: storing what is left is storing all. Assumes nothing.
use Rattle.std.proofs.Common.{◌≡◌, sym, ap, ◌∙◌, List, length, arith, rules}
use Rattle.std.proofs.lemmas.List.Edits.{sets}
use Rattle.std.proofs.Math.Seq.{length-sets}
use Rattle.gates.specs.declared.Gate.{Gate}
use Rattle.cascades.specs.Cascades.{records, bytes_of}
use Rattle.cascades.proofs.Stored.{stored_more, stored_ends, undoing_span}
use Rattle.cascades.proofs.undo.write_undoing.Goals as goal
use Rattle.cascades.proofs.undo.write_undoing.Invariants.{back}

pub loop-i-preserved : goal.loop-i-preserved
loop-i-preserved c =
    let i = c.loop-i.invariant in
    let lt = c.loop-i-test.true in
    record {
      whole = i.whole;
      within = search rules;
      long = ap length c.copy_inverse.ensures ∙ simp length-sets i.long;
      fits = i.fits;
      left = rw c.copy_inverse.ensures (stored_more (back _ _) _ _ _ lt) ∙ i.left;
    }

pub returns : goal.returns
returns c =
    let i = c.loop-i.invariant in
    let e : records c.args.cascade.now ≡ c.args.m = omega (arith, i.whole.size) in
    sym (stored_ends (back _ _) _ _ _ _ c.loop-i-test.false) ∙ i.left ∙ ap (λ (gs : List Gate). sets c.args.room.now 0 (bytes_of gs)) (sym (undoing_span _ _ e))
