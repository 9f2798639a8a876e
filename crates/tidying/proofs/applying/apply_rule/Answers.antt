-- `tidying::applying::apply_rule` meets its contract: the later gate first, whose rows are looked at before those of the earlier. Assumes nothing.
use Rattle.std.proofs.Common.{◌≡◌, ◌<◌, List, ap₂, ◌∙◌, rules, arith}
use Rattle.gates.specs.declared.Gate.{Gate}
use Rattle.rules.specs.declared.fitting.Left.{Left}
use Rattle.rules.specs.Tidying.{gate}
use Rattle.rules.specs.Inner.NamedRules.{rule_for}
use Rattle.rules.proofs.FittingPairs.{chosen}
use Rattle.remembering.specs.Inner.Buffers.{GateOrGap}
use Rattle.remembering.specs.Inner.LentBuffers.{held}
use Rattle.remembering.proofs.Buffers.{length_gates}
use Rattle.remembering.proofs.Looks.{planned_fits}
use Rattle.tidying.specs.declared.pairs.Pair.{Pair}
use Rattle.tidying.specs.Inner.PairSearches.{left_by}
use Rattle.tidying.proofs.Firsts.{left_stands, left_ruled}
use Rattle.tidying.proofs.applying.apply_rule.Given as given
use Rattle.tidying.proofs.applying.apply_rule.Goals as goal
use Rattle.tidying.proofs.applying.apply_rule.Goals.{After-leave_pair-left, Start}

-- what the rule leaves of a pair
abbrev left : List Gate → Pair → Left
left gs pair = left_by (rule_for (gate gs pair.i) (gate gs pair.j)) (gate gs pair.i) (gate gs pair.j)

module _ (g : given.Over) (s : Start g) where
  i_inside : s.args.pair.i < s.args.buffer.now.count
  i_inside = rw (length_gates s.args.buffer.now.bytes.now s.args.buffer.now.count) at s.requires.1.within

  j_inside : s.args.pair.j < s.args.buffer.now.count
  j_inside = rw (length_gates s.args.buffer.now.bytes.now s.args.buffer.now.count) at s.requires.1.inside

module _ (g : given.Over) (c : After-leave_pair-left g) where
  left_is : c.leave_pair-left.result ≡ left (held c.args.buffer.now) c.args.pair
  left_is = c.leave_pair-left.ensures ∙ ap₂ (λ (g h : Gate). left_by (rule_for g h) g h) c.word.ensures.1 c.word-2.ensures.1

  stands : GateOrGap c.leave_pair-left.result.first × GateOrGap c.leave_pair-left.result.second
  stands = rw left_is (left_stands _ c.args.buffer.now.holds.gates c.args.pair c.requires.1 (chosen _ _))

pub new-late-requires : goal.new-late-requires
new-late-requires g c = (stands g (goal.at.new-late-requires g c).After-leave_pair-left).1

pub replace-low-requires : goal.replace-low-requires
replace-low-requires g c =
    let d = c.new-late.ensures in
    let w = goal.at.replace-low-requires g c in
    (search rules, (planned_fits _ _ _ _ _ d.0 d.1 (j_inside g w.Start) (omega (arith, c.requires.1.clear.past)) (stands g w.After-leave_pair-left).1, rw d.0 c.requires.0))

pub new-early-requires : goal.new-early-requires
new-early-requires g c = (stands g (goal.at.new-early-requires g c).After-leave_pair-left).0

pub replace-requires : goal.replace-requires
replace-requires g c =
    let d = c.new-early.ensures in
    let w = goal.at.replace-requires g c in
    let r = rw c.new-late.ensures.0 at c.replace-low.ensures.remembers in
    let inside : c.args.pair.i < c.replace-low.new.buffer.count = rw c.replace-low.ensures.same_records.1 (i_inside g w.Start) in
    (search rules, (planned_fits _ _ _ _ _ d.0 d.1 inside r.1 (stands g w.After-leave_pair-left).0, rw d.0 r.0))

pub returns-clause-gates_after : goal.returns-clause-gates_after
returns-clause-gates_after g c =
    let late = rw c.new-late.ensures.0 at c.replace-low.ensures.gates_after in
    let early = rw c.new-early.ensures.0 at c.replace.ensures.gates_after in
    rw (early, late, left_is g (goal.at.returns-clause-gates_after g c).After-leave_pair-left) (left_ruled _ c.args.buffer.now.holds.gates c.args.pair c.requires.1 (chosen _ _))
