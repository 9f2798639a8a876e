-- `texts::laying::put_operator` meets its contract: both bytes of the name, and behind its letters the target's word. Assumes nothing.
use Rattle.std.proofs.Common.{arith}
use Rattle.texts.proofs.Names.{name_is}
use Rattle.texts.proofs.Appends.{operator_put}
use Rattle.texts.proofs.laying.put_operator.Goals as goal

pub returns : goal.returns
returns c =
    let a = c.args in
    let letters = c.size_name-named.ensures in
    (rw (name_is _ c.told-names _ c.requires.op_high, c.put_word.ensures, letters.0) (operator_put _ _ _ c.requires.on_line c.told-line), omega (arith, letters.1))
