-- `tabulating::planes::apply_gates` meets its contract: after i gates the planes show what the first i gates make of each pattern. Assumes nothing.
use Rattle.std.proofs.Common.{◌≡◌, sym, ◌∙◌, subst, ◌+◌, ◌*◌, ◌/◌, ◌≤◌, length, arith}
use Rattle.ranges.proofs.Lists.{through_nil}
use Rattle.ranges.proofs.Spans.{span_none}
use Rattle.card.proofs.Cards.{lines_are}
use Rattle.gates.specs.declared.Gate.{Gate}
use Rattle.gates.specs.Gates.{applied, IsGate}
use Rattle.gates.proofs.Records.{gate_at_lem}
use Rattle.gates.proofs.Bytes.{word_is, word_gate, word_low}
use Rattle.cascades.specs.Cascades.{gate_in, gates_of}
use Rattle.cascades.proofs.Cascades.{run_snoc}
use Rattle.tabulating.proofs.PlaneTurns.{shows_ext}
use Rattle.tabulating.proofs.planes.apply_gates.Goals as goal
use Rattle.tabulating.proofs.planes.apply_gates.Goals.{After-gate_of, In-loop-i}

module _ (c : In-loop-i) where
  fits : 8 * c.loop-i.i + 8 ≤ length c.args.cascade.now
  fits = omega (arith, c.requires.size, c.loop-i-test.true)

-- the gate that a turn acts with
module _ (c : After-gate_of) where
  is : c.gate_of.result ≡ gate_in c.args.cascade.now c.loop-i.i
  is = c.gate_of.ensures ∙ sym (word_gate _ _ _ c.word_at-w.ensures)

  good : IsGate c.args.lines c.gate_of.result
  good =
      let n = c.args.lines in
      subst (λ (g : Gate). IsGate n g) (sym is) (gate_at_lem _ _ _ (lines_are _ c.requires.lines).1 (c.requires.each _ c.loop-i-test.true))

pub loop-i-init : goal.loop-i-init
loop-i-init c = λ n f. shows_ext n _ f _ (λ p. sym (rw (span_none (gate_in _) 0) (through_nil applied (f p))))

pub gate_of-requires : goal.gate_of-requires
gate_of-requires c =
    word_low _ _ (sym (word_is _ _ _ c.word_at-w.ensures _ (fits (goal.at.gate_of-requires c).In-loop-i)) ∙ c.requires.each _ c.loop-i-test.true)

pub apply_gate-requires : goal.apply_gate-requires
apply_gate-requires c =
    let g = good (goal.at.apply_gate-requires c).After-gate_of in
    record { op_low = g.op_low; op_high = g.op_high; on_line = omega (arith, g.on_line, (lines_are _ c.requires.lines).1) }

pub loop-i-preserved : goal.loop-i-preserved
loop-i-preserved c = λ n f now.
    shows_ext n _ _ _ (λ p. rw (is (goal.at.loop-i-preserved c).After-gate_of) (sym (run_snoc _ _ (f p)))) (c.apply_gate.ensures n _ (c.loop-i.invariant n f now))

pub returns : goal.returns
unfolding gates_of
returns c = λ n f now.
    let e : c.loop-i.i ≡ length c.args.cascade.now / 8 = omega (arith, c.requires.size, c.loop-i.auto.i-end, c.loop-i-test.false) in
    rw e at (c.loop-i.invariant n f now)
