-- `files::stores::copy_bytes` meets its contract: so many bytes are stored. Assumes nothing.
use Rattle.std.proofs.Common.{refl}
use Rattle.ranges.proofs.Stores.{storing_starts, storing_next, storing_ends}
use Rattle.files.proofs.stores.copy_bytes.Goals as goal

pub loop-k-init : goal.loop-k-init
loop-k-init c = storing_starts _ _ _ c.requires

pub loop-k-preserved : goal.loop-k-preserved
loop-k-preserved c = storing_next _ _ _ _ _ c.loop-k.invariant _ 0 c.loop-k-test.true refl

pub returns : goal.returns
returns c = storing_ends _ _ _ _ _ c.loop-k.invariant c.loop-k-test.false
