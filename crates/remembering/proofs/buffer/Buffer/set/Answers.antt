-- `remembering::buffer::Buffer::set` meets its contract: the record is stored, and the others stay. Assumes nothing.
use Rattle.std.proofs.Common.{◌≡◌, ◌*◌, List, ℕ, ◌∙◌, set, length-set}
use Rattle.std.proofs.Math.Seq.{sets}
use Rattle.gates.specs.Records.{record_of}
use Rattle.remembering.specs.Inner.Buffers.{gates_in, BufferHolds}
use Rattle.remembering.specs.Inner.LentBuffers.{held}
use Rattle.remembering.proofs.Buffers.{length_gates, gates_inside, holds_fits, holds_set, holds_list}
use Rattle.remembering.proofs.buffer.Buffer.set.Goals as goal
use Rattle.remembering.proofs.buffer.Buffer.set.Goals.{Start}

module _ (c : Start) where
  abbrev stored : List ℕ
  stored = sets c.args.self.now.bytes.now (8 * c.args.place) (record_of c.args.g)

  still : BufferHolds stored (set (held c.args.self.now) c.args.place c.args.g)
  still = holds_set _ _ _ _ c.args.self.now.holds (gates_inside _ _ _ c.requires.0) c.requires.1

  same : gates_in stored c.args.self.now.count ≡ set (held c.args.self.now) c.args.place c.args.g
  same = holds_list _ _ _ still (length-set (held c.args.self.now) c.args.place c.args.g ∙ length_gates c.args.self.now.bytes.now c.args.self.now.count)

pub encode-requires : goal.encode-requires
encode-requires c = holds_fits _ _ c.args.self.now.holds _ (gates_inside _ _ _ c.requires.0)

pub invariant_of-self-clause-holds : goal.invariant_of-self-clause-holds
invariant_of-self-clause-holds c =
    let w = (goal.at.invariant_of-self-clause-holds c).Start in
    rw (c.encode.ensures, same w) (still w)

pub returns-clause-gates_after : goal.returns-clause-gates_after
returns-clause-gates_after c = rw c.encode.ensures (same (goal.at.returns-clause-gates_after c).Start)
