-- Two gates of one target and one type: no rule fits others, and these may change places (`fits_passes`). Assumes nothing.
use mathlib.Core.Path.{◌≡◌, refl, sym, ap, ◌∙◌, subst}
use mathlib.Core.Logic.{⊎_elim}
use mathlib.Core.Bool.{Bool, true, false, cond, ◌&&◌, ◌||◌, and-false}
use Prim.Native.Nat.{ℕ, zero, suc, ◌<◌}
use native.Mathlib.Omega.{arith}
use lib.Dec.{eqb}
use Rattle.std.specs.Prelude.{Option, Some, None, is_some}
use borrow.Author.Tests.{eqb-true, eq-eqb}
use Rattle.ranges.specs.Ranges.{every}
use Rattle.ranges.proofs.Bools.{decide, clash}
use Rattle.ranges.proofs.Tests.{every_below}
use Rattle.ranges.proofs.Triples.{if_so}
use Rattle.gates.specs.declared.Gate.{Gate}
use Rattle.gates.specs.Gates.{inverse_op, IsGate}
use Rattle.rules.specs.declared.fitting.Rule.{Rule}
use Rattle.rules.specs.Places.{is_c, same_type, blocks, clashes, may_change}
use Rattle.rules.specs.Rules.{same_lines, differences, cancels, merges, reduces, fits}
use Rattle.rules.specs.Inner.NamedRules.{rule_for, rule_by}
use Rattle.rules.proofs.Rules.{same_target}

not_blocked : (x y : Gate) → x.target ≡ y.target → IsGate 6 y → blocks x y ≡ false
unfolding blocks
not_blocked x y e ok = rw (e, ok.own) refl

inverse_type : (o : ℕ) → 0 < o → o < 6 → same_type o (inverse_op o) ≡ true
unfolding every same_type is_c inverse_op
inverse_type zero pos lt = absurd (omega arith)
inverse_type (suc o) pos lt = every_below (λ o. same_type (suc o) (inverse_op (suc o))) 5 refl o (omega arith)

-- ---- the rule that fits, by name

pub rule_fits : (g h : Gate) → is_some (rule_for g h) ≡ fits g h
unfolding rule_for fits
rule_fits g h = go (cancels g h) (merges g h) (reduces g h)
  where
    go : (x y z : Bool) → is_some (cond x (Some Rule.Cancel) (cond y (Some Rule.Merge) (cond z (Some Rule.Reduce) None))) ≡ (x || y || z)
    go true y z = refl
    go false true z = refl
    go false false true = refl
    go false false false = refl

-- and why it is
pub data Chosen (g h : Gate) : Option Rule → Type 0 where
  cancel : cancels g h ≡ true → Chosen g h (Some Rule.Cancel)
  merge : cancels g h ≡ false → merges g h ≡ true → Chosen g h (Some Rule.Merge)
  reduce : cancels g h ≡ false → merges g h ≡ false → reduces g h ≡ true → Chosen g h (Some Rule.Reduce)
  nothing : fits g h ≡ false → Chosen g h None

pub chosen : (g h : Gate) → Chosen g h (rule_for g h)
unfolding rule_for fits
chosen g h = go (cancels g h) refl (merges g h) refl (reduces g h) refl
  where
    go : (x : Bool) → cancels g h ≡ x → (y : Bool) → merges g h ≡ y → (z : Bool) → reduces g h ≡ z → Chosen g h (cond x (Some Rule.Cancel) (cond y (Some Rule.Merge) (cond z (Some Rule.Reduce) None)))
    go true c y m z r = Chosen.cancel c
    go false c true m z r = Chosen.merge c m
    go false c false m true r = Chosen.reduce c m r
    go false c false m false r = Chosen.nothing (rw (c, m, r))

pub chosen_reduces : (g h : Gate) → rule_for g h ≡ Some Rule.Reduce → reduces g h ≡ true
chosen_reduces g h e = go (subst (Chosen g h) e (chosen g h))
  where
    go : Chosen g h (Some Rule.Reduce) → reduces g h ≡ true
    go (Chosen.reduce c m r) = r

nothing_chosen : (g h : Gate) → rule_for g h ≡ None → fits g h ≡ false
nothing_chosen g h e = sym (rule_fits g h) ∙ ap is_some e

-- by the lines first
pub rule_lines : (g h : Gate) → rule_for g h ≡ cond (same_lines g h) (rule_by g.operator h.operator (differences g h)) None
unfolding rule_for rule_by cancels merges reduces
rule_lines g h = go (same_lines g h)
  where
    go : (b : Bool)
        → cond (b && eqb (differences g h) 0 && eqb h.operator (inverse_op g.operator)) (Some Rule.Cancel)
        (cond (b && eqb (differences g h) 0 && is_c g.operator && eqb g.operator h.operator) (Some Rule.Merge)
        (cond (b && eqb (differences g h) 1 && eqb g.operator h.operator) (Some Rule.Reduce) None))
        ≡ cond b (rule_by g.operator h.operator (differences g h)) None
    go true = refl
    go false = refl

-- operators that no rule takes
pub types_off : (g h : Gate) → eqb h.operator (inverse_op g.operator) ≡ false → eqb g.operator h.operator ≡ false → rule_for g h ≡ None
unfolding rule_for cancels merges reduces
types_off g h e q = simp (e, q, and-false)

equal_type : (a b : ℕ) → eqb a b ≡ true → same_type a b ≡ true
unfolding same_type
equal_type a b e = rw e refl

swap_test : ℕ → ℕ → Bool
swap_test a b = cond (same_type a b) (same_type b a) true

pub type_swap : (a b : ℕ) → a < 6 → b < 6 → same_type a b ≡ true → same_type b a ≡ true
unfolding swap_test every same_type is_c
type_swap a b la lb e = if_so (same_type a b) (same_type b a) (every_below (swap_test a) 6 (every_below (λ a. every (swap_test a) 0 6) 6 refl a la) b lb) e

module _ (g h : Gate) (okg : IsGate 6 g) (okh : IsGate 6 h) where
  pub one_passes : g.target ≡ h.target → same_type g.operator h.operator ≡ true → may_change g h ≡ true
  unfolding may_change clashes
  one_passes e same = rw (eq-eqb g.target h.target e, same, not_blocked g h e okh, not_blocked h g (sym e) okg) refl

  pub lines_on : fits g h ≡ true → same_lines g h ≡ true
  lines_on e = ⊎_elim (λ (q : same_lines g h ≡ true). q) (λ (q : same_lines g h ≡ false). clash (fits g h) e (nothing_chosen g h (rule_lines g h ∙ rw q))) (decide (same_lines g h))

  fits_type : fits g h ≡ true → same_type g.operator h.operator ≡ true
  fits_type e =
      ⊎_elim (λ (q : eqb g.operator h.operator ≡ true). equal_type g.operator h.operator q)
      (λ (q : eqb g.operator h.operator ≡ false).
      ⊎_elim (λ (i : eqb h.operator (inverse_op g.operator) ≡ true). rw (eqb-true h.operator (inverse_op g.operator) i) (inverse_type g.operator (omega (arith, okg.op_low)) (omega (arith, okg.op_high))))
      (λ (i : eqb h.operator (inverse_op g.operator) ≡ false). clash (fits g h) e (nothing_chosen g h (types_off g h i q))) (decide (eqb h.operator (inverse_op g.operator))))
      (decide (eqb g.operator h.operator))

  pub fits_passes : fits g h ≡ true → may_change g h ≡ true
  fits_passes e = one_passes (same_target g h (lines_on e)) (fits_type e)
