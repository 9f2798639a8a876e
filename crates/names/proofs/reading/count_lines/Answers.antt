-- `names::reading::count_lines` meets its contract: the lines before the loop are good and counted. Assumes nothing.
use Rattle.std.proofs.Common.{refl, sym, ◌∙◌, rules, tests, arith}
use Rattle.std.proofs.lemmas.Iterator.Consumers.{YieldsList-turn, YieldsList-end}
use Rattle.std.proofs.lemmas.List.{length_push}
use Rattle.names.proofs.SplitLines.{split_lines}
use Rattle.names.proofs.TextLines.{lines_few}
use Rattle.names.proofs.NamedTexts.{reading_start, reading_next, reading_bad, reading_end}
use Rattle.names.proofs.reading.count_lines.Goals as goal

pub loop-line-init : goal.loop-line-init
loop-line-init c = (refl, reading_start _ _)

pub returns-then-not-good_line : goal.returns-then-not-good_line
returns-then-not-good_line c =
    let i = c.loop-line.invariant in
    let turn = YieldsList-turn (split_lines _ c.args.text.now (cc) (cc) (λ x b q k. search (rules, tests))) c.loop-line.yielded _ c.loop-line.yielded_by _ _ c.in-Some.line c.in-Some.is c.next.ensures.steps in
    let at = rw (← i.0) at turn in
    sym (reading_bad _ _ _ i.1 _ at.0 at.1 _ _ refl (sym c.good_line.ensures ∙ c.if-not-good_line.true))

pub overflow_add-count : goal.overflow_add-count
overflow_add-count c =
    let i = c.loop-line.invariant in
    let turn = YieldsList-turn (split_lines _ c.args.text.now (cc) (cc) (λ x b q k. search (rules, tests))) c.loop-line.yielded _ c.loop-line.yielded_by _ _ c.in-Some.line c.in-Some.is c.next.ensures.steps in
    omega (arith, i.0, turn.0, lines_few c.args.text.now)

pub loop-line-preserved : goal.loop-line-preserved
loop-line-preserved c =
    let i = c.loop-line.invariant in
    let turn = YieldsList-turn (split_lines _ c.args.text.now (cc) (cc) (λ x b q k. search (rules, tests))) c.loop-line.yielded _ c.loop-line.yielded_by _ _ c.in-Some.line c.in-Some.is c.next.ensures.steps in
    let at = rw (← i.0) at turn in
    (rw (length_push, i.0), reading_next _ _ _ i.1 _ at.0 at.1 (sym c.good_line.ensures ∙ c.if-not-good_line.false))

pub returns : goal.returns
returns c =
    let i = c.loop-line.invariant in
    let all = i.0 ∙ (YieldsList-end (split_lines _ c.args.text.now (cc) (cc) (λ x b q k. search (rules, tests))) c.loop-line.yielded _ c.loop-line.yielded_by _ _ c.in-None.is c.next.ensures.steps).1 in
    sym (reading_end _ _ _ i.1 _ _ refl all ∙ rw all)
