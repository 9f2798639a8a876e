-- The gates and gaps of a lent buffer: cited by the contracts of inner functions alone.
use Rattle.std.specs.Prelude.{◌≡◌, List}
use Rattle.gates.specs.declared.Gate.{Gate}
use Rattle.remembering.specs.declared.buffer.Buffer.{Buffer}
use Rattle.remembering.specs.Inner.Buffers.{gates_in}

abbrev pub held : Buffer → List Gate
held buffer = gates_in buffer.bytes.now buffer.count

-- t lends the same bytes as s, and has as many records
abbrev pub SameRecords : Buffer → Buffer → Type 0
SameRecords s t = (t.bytes.ghost_name ≡ s.bytes.ghost_name) × (t.count ≡ s.count)
