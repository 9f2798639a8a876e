-- `names::reading::write_records` meets its contract: the gates of the lines before the loop are stored. Assumes nothing.
use Rattle.std.proofs.Common.{◌∙◌, rules, tests, arith}
use Rattle.std.proofs.lemmas.Iterator.Consumers.{YieldsList-turn, YieldsList-end}
use Rattle.std.proofs.lemmas.List.{length_push}
use Rattle.names.proofs.SplitLines.{split_lines}
use Rattle.names.proofs.NamedTexts.{laying_start, laying_fits, laying_next, laying_end}
use Rattle.names.proofs.reading.write_records.Goals as goal

pub loop-line-init : goal.loop-line-init
loop-line-init c = laying_start _ _ c.requires

pub encode-requires : goal.encode-requires
encode-requires c =
    let turn = YieldsList-turn (split_lines _ c.args.text.now (cc) (cc) (λ x b q k. search (rules, tests))) c.loop-line.yielded _ c.loop-line.yielded_by _ _ c.in-Some.line c.in-Some.is c.next.ensures.steps in
    laying_fits _ _ _ _ _ c.loop-line.invariant turn.0

pub overflow_add-to : goal.overflow_add-to
overflow_add-to c =
    let turn = YieldsList-turn (split_lines _ c.args.text.now (cc) (cc) (λ x b q k. search (rules, tests))) c.loop-line.yielded _ c.loop-line.yielded_by _ _ c.in-Some.line c.in-Some.is c.next.ensures.steps in
    omega (arith, laying_fits _ _ _ _ _ c.loop-line.invariant turn.0)

pub loop-line-preserved : goal.loop-line-preserved
loop-line-preserved c =
    let turn = YieldsList-turn (split_lines _ c.args.text.now (cc) (cc) (λ x b q k. search (rules, tests))) c.loop-line.yielded _ c.loop-line.yielded_by _ _ c.in-Some.line c.in-Some.is c.next.ensures.steps in
    rw length_push (laying_next _ _ _ _ _ c.loop-line.invariant _ _ turn.0 turn.1 (c.encode.ensures ∙ rw c.guess_gate.ensures))

pub returns : goal.returns
returns c =
    laying_end _ _ _ _ _ c.loop-line.invariant (YieldsList-end (split_lines _ c.args.text.now (cc) (cc) (λ x b q k. search (rules, tests))) c.loop-line.yielded _ c.loop-line.yielded_by _ _ c.in-None.is c.next.ensures.steps).1
