-- `tabulating::shown_entries::read_entry` meets its contract: digit by digit. Assumes nothing.
use Rattle.std.proofs.Common.{◌≡◌, sym, arith, ◌≤◌}
use Rattle.std.proofs.Math.Numerals.{add-one}
use Rattle.std.proofs.Math.Nat.{mul-le-mul}
use Rattle.digits.proofs.Sizes.{patterns_most}
use Rattle.digits.proofs.Packs.{pack_zero, pack_suc}
use Rattle.tabulating.specs.Inner.Planes.{entry_of}
use Rattle.tabulating.proofs.shown_entries.read_entry.Goals as goal

pub loop-k-init : goal.loop-k-init
loop-k-init c = record { low = omega arith; is = sym (pack_zero 3 _) }

pub loop-k-preserved : goal.loop-k-preserved
loop-k-preserved c = record {
  low =
      let most : c.power.result ≤ 729 = rw c.power.ensures (patterns_most c.loop-k.k (omega arith)) in
      omega (arith, mul-le-mul {n₁ = c.read_digit.result} {m₁ = c.power.result} {n₂ = 3} {m₂ = 729} (omega arith) most);
  is = rw (add-one, c.read_digit.ensures.0, c.power.ensures, c.loop-k.invariant.is) (sym (pack_suc 3 _ c.loop-k.k));
}

pub returns : goal.returns
unfolding entry_of
returns c =
    let e : c.loop-k.k ≡ 6 = omega (arith, c.loop-k-test.false, c.loop-k.auto.k-end) in
    rw e at c.loop-k.invariant.is
