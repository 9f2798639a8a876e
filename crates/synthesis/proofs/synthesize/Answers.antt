-- `synthesis::synthesize` meets its contract: each return is a case of the answer, by what the check said, and the array is long enough for the inverse
-- of any table. Assumes nothing.
use Rattle.std.proofs.Common.{◌≡◌, ◌^◌, ◌≤◌, [], take, refl, sym, arith}
use Rattle.card.specs.Card.{Answer.accepted}
use Rattle.card.proofs.Cards.{lines_are}
use Rattle.card.proofs.Exits.{exit_both}
use Rattle.tables.specs.Tables.{check_table_answer}
use Rattle.tables.specs.Inner.Inverses.{Inverted}
use Rattle.tables.proofs.Accepts.{accepted_permutation}
use Rattle.synthesis.specs.Synthesis.{synthesize_room}
use Rattle.synthesis.proofs.Synthesis.{bound_most, synthesized_bound}
use Rattle.synthesis.proofs.Pairings.{inverted_paired, present}
use Rattle.synthesis.proofs.SynthesisAnswers.{refused_table, refused_room, cascade_fits, accepted_cascade}
use Rattle.synthesis.proofs.synthesize.Goals as goal
use Rattle.synthesis.proofs.synthesize.Goals.{In_ok-check_inverting}

-- past the check
module _ (c : In_ok-check_inverting) where
  good : accepted [] ≡ check_table_answer c.args.lines c.args.table.now
  good = c.in_ok-check_inverting.ensures.answer

  inverted : Inverted (3 ^ c.args.lines) c.args.table.now (take (3 ^ c.args.lines) c.check_inverting.new.inverse)
  inverted = c.in_ok-check_inverting.ensures.inverted refl

  six : c.args.lines ≤ 6
  six = (lines_are _ (accepted_permutation _ _ (sym good)).0).1

pub returns-in_err-check_inverting : goal.returns-in_err-check_inverting
unfolding synthesize_room
returns-in_err-check_inverting c = exit_both _ _ _ refl _ c.from_residual.ensures.1 _ _ _ (refused_table _ _ _ _ _ c.in_err-check_inverting.ensures.answer)

pub compute_bound-requires : goal.compute_bound-requires
compute_bound-requires c = six c

pub returns-in_err-check_room : goal.returns-in_err-check_room
unfolding synthesize_room
returns-in_err-check_room c =
    let short = c.in_err-check_room.ensures in
    exit_both _ _ _ short.1 _ c.from_residual-in_err-check_room.ensures.1 _ _ _ (refused_room _ _ _ (good (goal.at.returns-in_err-check_room c).In_ok-check_inverting) _ c.compute_bound.ensures short.0)

pub write_cascade-gates-requires : goal.write_cascade-gates-requires
write_cascade-gates-requires c =
    let d = (goal.at.write_cascade-gates-requires c).In_ok-check_inverting in
    let n = c.args.lines in
    let perm = (inverted d).perm in
    record {
      settle = record { present = present n _ (six d) perm; room = omega (arith, synthesized_bound n _ (six d) perm, bound_most n (six d)) };
      pair = rw perm.size (inverted_paired n _ _ (inverted d));
      records_fit = cascade_fits _ _ c.args.room.now (good d) _ c.compute_bound.ensures c.in_ok-check_room.ensures;
    }

pub returns : goal.returns
returns c =
    let w = c.write_cascade-gates.ensures in
    accepted_cascade _ _ _ (good (goal.at.returns c).In_ok-check_inverting) _ c.compute_bound.ensures c.in_ok-check_room.ensures _ _ w.0 w.1
