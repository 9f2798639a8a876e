-- `gates::words::store` meets its contract: the bytes of the number are those of the word. Assumes nothing.
use Rattle.std.proofs.Common.{◌∙◌, ap, List, ℕ, get_or}
use Rattle.std.proofs.lemmas.List.Edits.{sets}
use Rattle.ranges.proofs.Stores.{storing_starts, storing_next, storing_ends}
use Rattle.gates.proofs.Bytes.{bytes_are}
use Rattle.gates.proofs.words.store.Goals as goal

pub loop-k-init : goal.loop-k-init
loop-k-init c = storing_starts _ _ _ c.requires

pub loop-k-preserved : goal.loop-k-preserved
loop-k-preserved c = storing_next _ _ _ _ _ c.loop-k.invariant _ 0 c.loop-k-test.true (ap (λ (x : List ℕ). get_or x c.loop-k.k 0) c.to_le_bytes.ensures)

pub returns : goal.returns
returns c = storing_ends _ _ _ _ _ c.loop-k.invariant c.loop-k-test.false ∙ ap (λ (x : List ℕ). sets c.args.out.now c.args.at x) (bytes_are c.args.w)
