-- `synthesis::passes::find_gates` meets its contract: after i rows the table is that of the procedure, and its gates' words are laid. Assumes nothing.
use Rattle.std.proofs.Common.{◌≡◌, ◌^◌, arith}
use Rattle.synthesis.proofs.Moves.{still, rows_none, rows_found, rows_room, rows_more, rows_all}
use Rattle.synthesis.proofs.Layings.{laid_none, laid_more}
use Rattle.synthesis.proofs.passes.find_gates.Goals as goal

pub loop-i-init : goal.loop-i-init
loop-i-init c = let at-start = rows_none _ _ in record { at = still _ _ _ c.requires.present at-start; laid = rw at-start (laid_none _ _) }

pub find_row-requires : goal.find_row-requires
find_row-requires c =
    let g = c.loop-i.invariant in
    rw c.new-names.ensures
    (record {
      present = g.at.present;
      row = omega arith;
      room = omega (arith, rows_room _ _ _ _ g.at c.args.words.now.start (omega arith) c.requires.room, g.laid.count);
    })

pub loop-i-preserved : goal.loop-i-preserved
loop-i-preserved c =
    let g = c.loop-i.invariant in
    let w = rw c.new-names.ensures at c.find_row.ensures.settled in
    record { at = rows_more _ _ _ _ g.at _ w.at; laid = rw (rows_found _ _ _ _ g.at) (laid_more _ _ _ _ _ _ _ _ g.laid w.laid) }

pub returns : goal.returns
returns c = let all : c.loop-i.i ≡ 3 ^ c.args.n = omega arith in rw (rows_all _ _ c.args.table.now.table.now all) at c.loop-i.invariant.laid
