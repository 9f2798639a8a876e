-- `cascades::scan::first_bad` meets its contract: what the search has left gives what it would give from the start. Assumes nothing.
use Rattle.std.proofs.Common.{sym, ◌∙◌, arith}
use Rattle.ranges.proofs.Places.{found_here, found_nowhere}
use Rattle.gates.proofs.Bytes.{word_is}
use Rattle.cascades.specs.Answers.{first_bad}
use Rattle.cascades.proofs.Answers.{passing_next, passing_bad, passing_all}
use Rattle.cascades.proofs.scan.first_bad.Goals as goal

pub returns-then-not-is_gate : goal.returns-then-not-is_gate
unfolding first_bad
returns-then-not-is_gate c =
    let e = word_is _ _ _ c.word_at.ensures _ (omega (arith, c.loop-i-test.true)) ∙ sym c.is_gate.ensures ∙ c.if-not-is_gate.true in
    found_here _ _ _ (passing_bad _ _ _ _ _ c.loop-i-test.true e c.loop-i.invariant) c.loop-i-test.true

pub loop-i-preserved : goal.loop-i-preserved
loop-i-preserved c =
    let e = word_is _ _ _ c.word_at.ensures _ (omega (arith, c.loop-i-test.true)) ∙ sym c.is_gate.ensures ∙ c.if-not-is_gate.false in
    passing_next _ _ _ _ _ c.loop-i-test.true e c.loop-i.invariant

pub returns : goal.returns
unfolding first_bad
returns c = found_nowhere _ _ (passing_all _ _ _ _ _ c.loop-i-test.false c.loop-i.invariant)
