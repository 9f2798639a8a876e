-- `texts::gate_texts::size_gate` meets its contract: it is the length of the gate's line, by the name's letters and the marks. Assumes nothing.
use Rattle.texts.proofs.Names.{name_is}
use Rattle.texts.proofs.GateLengths.{word_long}
use Rattle.texts.proofs.gate_texts.size_gate.Goals as goal

pub returns : goal.returns
returns c =
    rw (c.size_name.ensures.0, ← name_is _ c.told-names _ c.requires.op_high, c.mark_controls.ensures) (word_long _ _ c.requires)
