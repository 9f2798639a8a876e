-- `gates::words::packed_controls` meets its contract: three control bytes side by side, and the other three. Assumes nothing.
use native.Mathlib.Omega.{arith}
use Rattle.gates.proofs.Bytes.{packed_bytes}
use Rattle.std.proofs.Common.{rules}
use Rattle.gates.proofs.words.packed_controls.Goals as goal

pub returns : goal.returns
returns c = (packed_bytes _ c.requires (search rules), omega arith)
