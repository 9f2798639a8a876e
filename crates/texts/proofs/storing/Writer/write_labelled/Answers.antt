-- `texts::storing::Writer::write_labelled` meets its contract: two pieces, one behind the other. Assumes nothing.
use Rattle.texts.specs.Texts.{decimal}
use Rattle.texts.proofs.Writes.{wrote_both, fits_next}
use Rattle.texts.proofs.storing.Writer.write_labelled.Goals as goal

pub write_decimal-requires : goal.write_decimal-requires
write_decimal-requires c = fits_next c.write_text.ensures (decimal c.args.x) c.requires

pub returns : goal.returns
returns c = wrote_both c.write_text.ensures c.write_decimal.ensures
