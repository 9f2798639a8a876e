-- `listings::writing::write_listing` meets its contract: the head line, and the gates' lines behind it. That the names are the operators' is
-- computed. Assumes nothing.
use Rattle.std.proofs.Common.{◌≡◌, ℕ, ◌+◌, List, length, rules, arith}
use Rattle.std.proofs.lemmas.List.{length-append}
use Rattle.cascades.specs.Cascades.{records, gates_of}
use Rattle.cascades.proofs.Cascades.{gates_count}
use Rattle.texts.specs.GateTexts.{gate_texts}
use Rattle.texts.specs.Inner.Names.{name_of, name_in}
use Rattle.texts.proofs.Writes.{wrote_both, wrote_long}
use Rattle.listings.specs.Listings.{operator_name, head_text, listing_with}
use Rattle.listings.proofs.writing.write_listing.Goals as goal

parts : (n cost : ℕ) (b : List ℕ) → length (listing_with n cost (gates_of b)) ≡ length (head_text n (records b) cost) + length (gate_texts operator_name (gates_of b))
unfolding listing_with
parts n cost b = rw gates_count (length-append (head_text n (records b) cost) (gate_texts operator_name (gates_of b)))

pub write_head-requires : goal.write_head-requires
write_head-requires c =
    let a = c.args in
    omega (arith, c.requires.1, parts a.lines a.cost a.cascade.now)

pub write_gate_texts-requires : goal.write_gate_texts-requires
unfolding name_in name_of operator_name
write_gate_texts-requires c =
    let a = c.args in
    let head = c.write_head.ensures in
    (record { lines = _; whole = c.requires.0 }, omega (arith, c.requires.1, parts a.lines a.cost a.cascade.now, head.stored.behind, wrote_long head))

pub returns : goal.returns
unfolding listing_with name_in name_of operator_name
returns c =
    let w = wrote_both c.write_head.ensures c.write_gate_texts.ensures in
    rw gates_count (search rules)
