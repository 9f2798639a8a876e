-- `listings::writing::size_listing` meets its contract: the head line's length and that of the gates' lines. That the names are the operators' is
-- computed. Assumes nothing.
use Rattle.std.proofs.Common.{sym}
use Rattle.cascades.specs.Cascades.{gates_of}
use Rattle.cascades.proofs.Cascades.{gates_count}
use Rattle.texts.specs.Inner.Names.{name_of, name_in}
use Rattle.listings.specs.Listings.{operator_name}
use Rattle.listings.proofs.Lengths.{length_listing}
use Rattle.listings.proofs.writing.size_listing.Goals as goal

pub returns : goal.returns
unfolding name_in name_of operator_name
returns c =
    let b = c.args.cascade.now in
    rw (c.size_decimal-n.ensures.digits, c.size_decimal-m.ensures.digits, c.size_decimal-v.ensures.digits, c.size_gate_texts.ensures.bytes, ← gates_count b) (sym (length_listing _ _ (gates_of b)))
