-- What a gate does: it stays within the patterns of its lines, a line without control does not matter to it, and its inverse takes it back.
-- Assumes nothing.
use mathlib.Core.Path.{◌≡◌, refl, ◌∙◌}
use mathlib.Core.Bool.{Bool, true, false, or-true}
use Prim.Native.Nat.{ℕ, ◌^◌, ◌≤◌, ◌<◌}
use native.Mathlib.Decide.{ℕ_discrete}
use native.Mathlib.Omega.{arith}
use lib.Dec.{eqb}
use borrow.Author.Tests.{eq-eqb}
use Rattle.ranges.proofs.Bools.{cond_lt}
use Rattle.ranges.proofs.Tests.{every_ext}
use Rattle.digits.specs.Digits.{digit, put}
use Rattle.digits.proofs.Digits.{digit_lt, digit_put_same, digit_put_other, put_put, put_same, put_lt}
use Rattle.gates.specs.declared.Gate.{Gate}
use Rattle.gates.specs.Gates.{act, inverse_op, control, holds, fires_on, changed, applied, inverse, IsGate}
use Rattle.gates.specs.Inner.Firing.{fires}
use Rattle.gates.proofs.Operators.{act_lt, act_inverse, inverse_is_op, inverse_twice}

-- ---- in radix r, where the target's digit becomes what f makes of it

module _ (r : ℕ) (f : ℕ → ℕ) (g : Gate) (p : ℕ) where
  pub changed_yes : fires_on r g.controls p ≡ true → changed r f g p ≡ put r g.target p (f (digit r g.target p))
  unfolding changed
  changed_yes e = rw e

  pub changed_no : fires_on r g.controls p ≡ false → changed r f g p ≡ p
  unfolding changed
  changed_no e = rw e

  -- a gate on n lines keeps patterns of n lines
  pub changed_lt : (n : ℕ) → g.target < n → ((x : ℕ) → f x < r) → p < r ^ n → changed r f g p < r ^ n
  unfolding changed
  changed_lt n lt low lp = cond_lt (fires_on r g.controls p) (put_lt r n g.target p _ lp lt (low (digit r g.target p))) lp

-- a digit whose control takes the old and the new value alike does not matter
pub fires_put : (r c p t d : ℕ) → d < r → holds (digit 4 t c) d ≡ holds (digit 4 t c) (digit r t p) → fires_on r c (put r t p d) ≡ fires_on r c p
unfolding fires_on
fires_put r c p t d ld e = every_ext _ _ 0 6 (λ k le lt. at k (ℕ_discrete k t))
  where
    at : (k : ℕ) → Dec (k ≡ t) → holds (digit 4 k c) (digit r k (put r t p d)) ≡ holds (digit 4 k c) (digit r k p)
    at k (yes q) = rw (q, digit_put_same r t p d ld) e
    at k (no ne) = rw (digit_put_other r k t p d ld ne)

-- a line without a control takes any value
pub holds_none : (x : ℕ) → holds 3 x ≡ true
unfolding holds
holds_none x = refl

-- a control is content with its own value
pub holds_equal : (c x : ℕ) → c ≡ x → holds c x ≡ true
unfolding holds
holds_equal c x e = rw (eq-eqb c x e) (or-true (eqb c 3))

pub fires_put_free : (r c p t d : ℕ) → d < r → digit 4 t c ≡ 3 → fires_on r c (put r t p d) ≡ fires_on r c p
fires_put_free r c p t d ld free = fires_put r c p t d ld (rw (free, holds_none d, holds_none (digit r t p)))

-- what takes f back takes the gate back
pub changed_back : (r : ℕ) (f b : ℕ → ℕ) (g : Gate) (p : ℕ) → 0 < r → control g g.target ≡ 3 → ((x : ℕ) → f x < r) → ((x : ℕ) → x < r → b (f x) ≡ x)
    → changed r b g (changed r f g p) ≡ p
changed_back r f b g p pos own low back = go (fires_on r g.controls p) refl
  where
    go : (t : Bool) → fires_on r g.controls p ≡ t → changed r b g (changed r f g p) ≡ p
    go true e =
        let ly : f (digit r g.target p) < r = low (digit r g.target p) in
        rw (changed_yes r f g p e)
        (changed_yes r b g (put r g.target p (f (digit r g.target p))) (fires_put_free r g.controls p g.target _ ly own ∙ e)
        ∙ rw (digit_put_same r g.target p _ ly, put_put r g.target p _ _ ly, back (digit r g.target p) (digit_lt r g.target p pos)) (put_same r g.target p))
    go false e = rw (changed_no r f g p e) (changed_no r b g p e)

-- ---- ternary

pub applied_yes : (g : Gate) (p : ℕ) → fires g p ≡ true → applied g p ≡ put 3 g.target p (act g.operator (digit 3 g.target p))
unfolding applied
applied_yes g p = changed_yes 3 (act g.operator) g p

pub applied_no : (g : Gate) (p : ℕ) → fires g p ≡ false → applied g p ≡ p
unfolding applied
applied_no g p = changed_no 3 (act g.operator) g p

pub applied_lt : (n : ℕ) (g : Gate) (p : ℕ) → g.target < n → p < 3 ^ n → applied g p < 3 ^ n
unfolding applied
applied_lt n g p lt = changed_lt 3 (act g.operator) g p n lt (act_lt g.operator)

-- the inverse of a gate takes it back
pub applied_inverse : (n : ℕ) (g : Gate) (p : ℕ) → IsGate n g → applied (inverse g) (applied g p) ≡ p
unfolding applied inverse changed
applied_inverse n g p ok =
    changed_back 3 (act g.operator) (act (inverse_op g.operator)) g p (omega arith) ok.own (act_lt g.operator)
    (λ x lt. act_inverse g.operator x ok.op_low ok.op_high lt)

pub inverse_gate : (n : ℕ) (g : Gate) → IsGate n g → IsGate n (inverse g)
unfolding inverse
inverse_gate n g ok =
    let i = inverse_is_op g.operator ok.op_low ok.op_high in
    record { op_low = i.0; op_high = i.1; on_line = ok.on_line; own = ok.own; beyond = ok.beyond; packed = ok.packed }

pub inverse_inverse : (n : ℕ) (g : Gate) → IsGate n g → inverse (inverse g) ≡ g
unfolding inverse
inverse_inverse n g ok =
    let e = inverse_twice g.operator ok.op_low ok.op_high in
    λ i. record { operator = e i; target = g.target; controls = g.controls }

-- a gate on n lines is one on more
pub gate_wider : (n m : ℕ) → n ≤ m → (g : Gate) → IsGate n g → IsGate m g
gate_wider n m le g ok =
    record {
      op_low = ok.op_low;
      op_high = ok.op_high;
      on_line = omega (arith, ok.on_line);
      own = ok.own;
      beyond = λ k far lt. ok.beyond k (omega arith) lt;
      packed = ok.packed;
    }
