-- `tidying::pairs::find_pair` meets its contract. The rows before i have no pair, row i may have one and is clear up to j; the labelled break leaves
-- both loops with the pair found. Assumes nothing.
use Rattle.std.proofs.Common.{◌≡◌, ◌≤◌, false, length, sym, ap₂, ◌∙◌, arith}
use Rattle.gates.specs.Gates.{IsGate}
use Rattle.rules.specs.Places.{may_change}
use Rattle.rules.specs.Tidying.{gate}
use Rattle.remembering.specs.Inner.Buffers.{is_gap}
use Rattle.remembering.specs.Inner.LentBuffers.{held}
use Rattle.remembering.specs.Inner.Rows.{Stops}
use Rattle.remembering.proofs.Buffers.{length_gates, gates_inside, holds_gate}
use Rattle.remembering.proofs.Clearances.{row_real}
use Rattle.remembering.proofs.Looks.{rows_kept}
use Rattle.remembering.proofs.Stretches.{shut_unfit}
use Rattle.tidying.proofs.pairs.find_pair.Goals as goal
use Rattle.tidying.proofs.pairs.find_pair.Goals.{else-loop-j-test, then-loop-j-test+then-not-may_change}

pub rows-preserved : goal.rows-preserved
rows-preserved g c =
    let gs = held c.args.buffer.now in
    let i = c.in_ok-i.i in
    let next = c.in_ok-i.ensures in
    let real : is_gap (gate gs i) ≡ false = row_real _ _ _ (c.rows.invariant.known.rows _ (gates_inside _ _ _ next.within)) next.unsure in
    let stops : Stops gs i c.loop-j.j =
    elim c.loop-j-test.branch [
      | else-loop-j-test w ↦
          let end : c.args.buffer.now.count ≤ c.loop-j.j = w.loop-j-test.false in
          let count : length gs ≡ c.args.buffer.now.count = length_gates c.args.buffer.now.bytes.now c.args.buffer.now.count in
          record { unfit = λ l. absurd (omega arith); shut = λ l. absurd (omega arith) }
      | then-loop-j-test+then-not-may_change w ↦
          let shut : may_change (gate gs i) (gate gs c.loop-j.j) ≡ false =
          ap₂ may_change (sym c.word-g.ensures.1) (sym w.word-h.ensures.1) ∙ sym w.may_change.ensures ∙ w.if-not-may_change.true in
          let row_gate : IsGate 6 (gate gs i) = (holds_gate _ _ c.args.buffer.now.holds _ (gates_inside _ _ _ next.within)).real real in
          record { unfit = λ l. shut_unfit _ _ row_gate (holds_gate _ _ c.args.buffer.now.holds _ l) shut; shut = λ l. shut }
    ] in
    c.stop_row.ensures.stopped _ _ c.loop-j.invariant.0 next.within real c.loop-j.invariant.1 stops

pub loop-j-preserved : goal.loop-j-preserved
loop-j-preserved g c =
    let passed = c.pass_stretches-j.ensures.passed in
    (rows_kept _ _ _ _ _ c.loop-j.invariant.0 c.pass_stretches-j.ensures.rows passed.0, passed.2)
