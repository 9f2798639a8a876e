-- `tabulating::shown_entries::write_entries` meets its contract: the loop fills the entries. Assumes nothing.
use Rattle.ranges.proofs.Fills.{filling_start, filling_next, filling_end}
use Rattle.tabulating.proofs.shown_entries.write_entries.Goals as goal

pub loop-p-init : goal.loop-p-init
loop-p-init c = filling_start _ _

pub loop-p-preserved : goal.loop-p-preserved
loop-p-preserved c = filling_next _ _ _ _ c.loop-p.invariant 0 _ c.read_entry.ensures c.loop-p-test.true

pub returns : goal.returns
returns c = filling_end _ _ _ _ c.loop-p.invariant c.loop-p-test.false
