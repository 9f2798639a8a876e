-- `texts::storing::Writer::write_text` meets its contract: the part of the room behind what was written is the text. Assumes nothing.
use Rattle.std.proofs.Common.{refl, arith}
use Rattle.texts.proofs.Writes.{stored_part}
use Rattle.texts.proofs.storing.Writer.write_text.Goals as goal

pub returns : goal.returns
returns c =
    let out = c.args.self.now in
    record {
      same = refl;
      stored = record { bytes = rw c.copy_from_slice.ensures.after (stored_part out.room.now out.at _ c.args.text.now (omega arith) c.requires); behind = refl };
    }
