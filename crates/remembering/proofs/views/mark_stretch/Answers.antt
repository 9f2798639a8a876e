-- `remembering::views::mark_stretch` meets its contract: it is known, or is looked at. Assumes nothing.
use Rattle.std.proofs.Common.{arith}
use Rattle.remembering.proofs.Buffers.{length_gates}
use Rattle.remembering.proofs.views.mark_stretch.Goals as goal

pub bounds-marks-s : goal.bounds-marks-s
bounds-marks-s c = omega (arith, length_gates c.args.buffer.now.bytes.now c.args.buffer.now.count, c.requires.0.room, c.requires.1)
