-- `files::stores::write_trailer` meets its contract: the parts of the trailer are stored one after the other. Assumes nothing.
use Rattle.std.proofs.Common.{◌≡◌, ◌*◌, ◌∙◌}
use Rattle.files.specs.Files.{little_endian}
use Rattle.files.proofs.NumberBytes.{low_bytes}
use Rattle.files.proofs.Frames.{trailer_stored}
use Rattle.files.proofs.stores.write_trailer.Goals as goal

pub returns : goal.returns
returns c =
    let distance : c.to_le_bytes.result ≡ little_endian 4 (8 * c.args.m) = c.to_le_bytes.ensures ∙ low_bytes 4 _ in
    let count : c.to_le_bytes-2.result ≡ little_endian 2 c.args.m = c.to_le_bytes-2.ensures ∙ low_bytes 2 _ in
    trailer_stored _ _ _ _ _ _ _ (rw distance at c.copy_bytes.ensures) (rw count at c.copy_bytes-2.ensures)
