-- `sheets::table_file::read_entries` meets its contract: the loop fills the table. Assumes nothing.
use Rattle.std.proofs.Common.{◌≡◌, ◌-◌, ◌/◌, length, ap, sym, ◌∙◌, arith}
use Rattle.ranges.specs.Ranges.{span}
use Rattle.ranges.proofs.Fills.{filling_start, filling_next, filling_end}
use Rattle.sheets.specs.Sheets.{entries_of}
use Rattle.sheets.proofs.table_file.read_entries.Goals as goal
use Rattle.sheets.proofs.table_file.read_entries.Invariants.{entry_of}

pub loop-i-init : goal.loop-i-init
loop-i-init c = filling_start _ _

pub loop-i-preserved : goal.loop-i-preserved
loop-i-preserved c = filling_next _ _ _ _ c.loop-i.invariant 0 _ (omega (arith, c.from_le_bytes.ensures)) (omega arith)

pub returns : goal.returns
unfolding entries_of
returns c =
    let half : (length c.args.file.now - 1) / 2 ≡ length c.args.table.now = omega arith in
    filling_end _ _ _ _ c.loop-i.invariant (omega arith) ∙ ap (span (entry_of c.args.file.now) 0) (sym half)
