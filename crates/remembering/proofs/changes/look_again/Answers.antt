-- `remembering::changes::look_again` meets its contract: the row does not reach the change, or its pair with the new gate is looked at. Assumes
-- nothing.
use Rattle.std.proofs.Common.{◌≡◌, ◌<◌, sym, ap₂, ◌∙◌, arith}
use Rattle.gates.specs.Inner.Words.{gate_of}
use Rattle.rules.specs.Places.{may_change}
use Rattle.rules.specs.Rules.{fits}
use Rattle.remembering.specs.Inner.Rows.{settled_mark}
use Rattle.remembering.proofs.Buffers.{gates_inside}
use Rattle.remembering.proofs.RowWords.{gate_word, word_known}
use Rattle.remembering.proofs.Clearances.{again_quiet}
use Rattle.remembering.proofs.changes.look_again.Goals as goal

pub may_change-requires : goal.may_change-requires
may_change-requires c = (c.word-h.ensures.0, word_known _ _ c.word_of-w.ensures c.requires.0.either c.word_of-w.type_inv)

pub fits_pair-requires : goal.fits_pair-requires
fits_pair-requires c = (c.word-h.ensures.0, word_known _ _ c.word_of-w.ensures c.requires.0.either c.word_of-w.type_inv)

pub returns-then-not-fits_pair : goal.returns-then-not-fits_pair
returns-then-not-fits_pair c =
    let same : gate_of c.word_of-w.result ≡ c.args.change.gate = gate_word _ _ c.word_of-w.ensures c.requires.0.either in
    let small : c.args.change.place < settled_mark = omega (arith, c.args.buffer.now.few, c.requires.0.inside) in
    again_quiet _ _ _ _ _ (gates_inside _ _ _ c.requires.0.inside) (λ e. omega (arith, c.requires.1)) c.requires.2 c.requires.1 small c.if-change-c.true
    (ap₂ fits (sym c.word-h.ensures.1) (sym same) ∙ sym c.fits_pair.ensures ∙ c.if-not-fits_pair.true)
    (ap₂ may_change (sym c.word-h.ensures.1) (sym same) ∙ sym c.may_change.ensures ∙ c.if-may_change.true)
