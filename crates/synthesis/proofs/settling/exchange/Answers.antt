-- `synthesis::settling::exchange` meets its contract: the rows of the two values are rows of the table, and the stores are those of `Pairings`.
-- Assumes nothing.
use Rattle.synthesis.proofs.Pairings.{table_stores, exchange_paired}
use Rattle.synthesis.proofs.settling.exchange.Goals as goal

pub returns : goal.returns
returns c =
    let w = c.requires in
    let e = table_stores _ _ w.0 _ _ w.1 w.2 in
    record { table_after = e; paired = rw e (exchange_paired _ _ w.0 _ _ w.1 w.2) }
