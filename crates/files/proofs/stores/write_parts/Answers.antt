-- `files::stores::write_parts` meets its contract: the parts of the file are stored one after the other. Assumes nothing.
use Rattle.std.proofs.Common.{◌∙◌}
use Rattle.files.proofs.Frames.{file_stored}
use Rattle.files.proofs.stores.write_parts.Goals as goal

pub returns : goal.returns
returns c =
    c.write_trailer.ensures ∙ file_stored _ _ _ _ _ _ c.copy_bytes.ensures c.copy_bytes-2.ensures
