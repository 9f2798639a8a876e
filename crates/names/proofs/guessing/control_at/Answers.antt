-- `names::guessing::control_at` meets its contract: each return is a case. Assumes nothing.
use Rattle.std.proofs.Common.{eq-eqb, ne_eqb}
use Rattle.names.specs.Inner.Guesses.{stands}
use Rattle.names.proofs.guessing.control_at.Goals as goal

pub returns-then-byte_at-k : goal.returns-then-byte_at-k
unfolding stands
returns-then-byte_at-k c = rw (← c.byte_at.ensures, ne_eqb _ _ c.if-byte_at-k.true)

pub returns : goal.returns
unfolding stands
returns c = rw (← c.byte_at.ensures, ← c.byte_at-2.ensures, eq-eqb _ _ c.if-byte_at-k.false)
