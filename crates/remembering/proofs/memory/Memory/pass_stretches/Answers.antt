-- `remembering::memory::Memory::pass_stretches` meets its contract: the row is clear up to stretch s. Assumes nothing.
use Rattle.std.proofs.Common.{◌≡◌, ◌+◌, ◌*◌, ◌/◌, ◌<◌, ◌≤◌, length, arith}
use Rattle.gates.specs.Gates.{IsGate}
use Rattle.rules.specs.Tidying.{gate}
use Rattle.remembering.specs.Inner.LentBuffers.{held}
use Rattle.remembering.specs.Inner.Views.{SeenAs}
use Rattle.remembering.proofs.Buffers.{length_gates, holds_gate}
use Rattle.remembering.proofs.Stretches.{clear_stretch}
use Rattle.remembering.proofs.memory.Memory.pass_stretches.Given as given
use Rattle.remembering.proofs.memory.Memory.pass_stretches.Goals as goal
use Rattle.remembering.proofs.memory.Memory.pass_stretches.Goals.{Start}

module _ (g : given.Over) (s : Start g) where
  count : length (held s.args.buffer.now) ≡ s.args.buffer.now.count
  count = length_gates s.args.buffer.now.bytes.now s.args.buffer.now.count

  row_inside : s.args.i < length (held s.args.buffer.now)
  row_inside = omega (arith, s.requires.2.past, s.requires.2.inside)

pub word-requires : goal.word-requires
word-requires g c =
    let s = (goal.at.word-requires g c).Start in
    omega (arith, count g s, row_inside g s)

pub bounds-self-s : goal.bounds-self-s
bounds-self-s g c = omega (arith, count g (goal.at.bounds-self-s g c).Start, c.mark_stretch.ensures.room)

pub loop-s-preserved : goal.loop-s-preserved
loop-s-preserved g c =
    let gs = held c.args.buffer.now in
    let s = (goal.at.loop-s-preserved g c).Start in
    let w = c.loop-s.invariant.0 in
    let seen : SeenAs (gate gs c.args.i) c.see_word-seen.result = rw c.word.ensures.1 at c.see_word-seen.ensures in
    let ok : IsGate 6 (gate gs c.args.i) = (holds_gate _ _ c.args.buffer.now.holds _ (row_inside g s)).real c.requires.1 in
    let within : 16 * c.loop-s.s + 16 ≤ length gs = rw (count g s) (omega arith) in (
      (c.mark_stretch.ensures, omega (arith, w.1), clear_stretch _ _ _ _ _ w.2 within ok seen c.requires.1 (c.mark_stretch.ensures.each c.loop-s.s within) (c.meets_none.ensures c.if-not-meets_none.false)),
      c.loop-s.invariant.1,
      c.loop-s.invariant.2,
    )

pub returns-clause-passed : goal.returns-clause-passed
returns-clause-passed g c =
    let inside : c.args.from ≤ c.args.buffer.now.count = omega (arith, count g (goal.at.returns-clause-passed g c).Start, c.requires.2.inside) in
    let end : c.args.buffer.now.count / 16 ≡ c.loop-s.s = omega (arith, inside) in
    rw end c.loop-s.invariant.0
