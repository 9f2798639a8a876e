-- `texts::laying::size_name` meets its contract: the number beside the bytes, but at most 2. Assumes nothing.
use Rattle.std.proofs.Common.{sym, ◌∙◌}
use Rattle.texts.proofs.Names.{name_few, name_long}
use Rattle.texts.proofs.laying.size_name.Goals as goal

pub returns : goal.returns
returns c =
    let name = c.args.name in
    let size = c.from.ensures ∙ c.min.ensures in
    (size ∙ sym (name_long name), rw size (name_few name))
