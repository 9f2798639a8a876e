-- `names::writing::write_lines` meets its contract. That the names are the operators' is computed. Assumes nothing.
use Rattle.std.proofs.Common.{rules, arith}
use Rattle.texts.specs.Inner.Names.{name_of, name_in}
use Rattle.names.specs.Names.{other_name}
use Rattle.names.proofs.writing.write_lines.Goals as goal

pub write_gate_texts-requires : goal.write_gate_texts-requires
unfolding name_in name_of other_name
write_gate_texts-requires c = (c.requires.0, omega (arith, c.requires.1))

pub returns : goal.returns
unfolding name_in name_of other_name
returns c =
    let w = c.write_gate_texts.ensures in
    search rules
