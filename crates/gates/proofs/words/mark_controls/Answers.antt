-- `gates::words::mark_controls` meets its contract: a line has a control where its byte is another than 3. Assumes nothing.
use mathlib.Core.Path.{◌∙◌}
use Rattle.gates.proofs.Marks.{threes_small, controls_marked}
use Rattle.gates.proofs.words.mark_controls.Goals as goal

pub mark_others-requires : goal.mark_others-requires
mark_others-requires c = (c.requires, threes_small)

pub returns : goal.returns
returns c = c.mark_others.ensures ∙ controls_marked _
