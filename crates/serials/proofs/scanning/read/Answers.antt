-- `serials::scanning::read` meets its contract: reading what is left is reading all. Assumes nothing.
use Rattle.std.proofs.Common.{sym, ap, ◌∙◌}
use Rattle.serials.specs.declared.Serial.{Serial}
use Rattle.serials.specs.Serials.{serial}
use Rattle.serials.proofs.Serials.{fed_more, fed_ends}
use Rattle.serials.proofs.scanning.read.Goals as goal

pub loop-b-preserved : goal.loop-b-preserved
loop-b-preserved c =
    rw (c.keep.ensures, c.step-next.ensures) (fed_more (serial c.loop-b.s c.loop-b.entries) _ _ c.loop-b-test.true ∙ c.loop-b.invariant)

pub returns : goal.returns
returns c =
    let e = sym (fed_ends (serial _ _) _ _ c.loop-b-test.false) ∙ c.loop-b.invariant in
    record {
      value = ap (λ (r : Serial). r.scan) e;
      entries_after = ap (λ (r : Serial). r.entries) e;
    }
