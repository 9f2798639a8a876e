-- Gates that may change places commute on every pattern.
-- A gate puts on its target what its operator makes of the digit there where it fires, and that digit itself where it does not. So two gates on one
-- target compose their operators, and two gates on different targets put two digits. Facts on the operators are computed tests. Assumes nothing.
use mathlib.Core.Path.{◌≡◌, refl, sym, ap, ◌∙◌}
use mathlib.Core.Bool.{Bool, true, false, cond, not, ◌&&◌, ◌||◌, beq}
use Prim.Native.Nat.{ℕ, ◌<◌}
use native.Mathlib.Decide.{ℕ_discrete}
use native.Mathlib.Omega.{arith}
use lib.Dec.{eqb}
use borrow.Author.Tests.{eqb-true, eq-eqb, not-true, not-false}
use Rattle.ranges.specs.Ranges.{every}
use Rattle.ranges.proofs.Bools.{or_left, or_right}
use Rattle.ranges.proofs.Triples.{triple_at, if_so, if_not, beq_same}
use Rattle.digits.specs.Digits.{digit, put}
use Rattle.digits.proofs.Digits.{digit_lt, digit_put_same, digit_put_other, put_put, put_same, put_swap}
use Rattle.gates.specs.declared.Gate.{Gate}
use Rattle.gates.specs.Gates.{act, control, holds, changed, applied, IsGate}
use Rattle.gates.specs.Inner.Firing.{fires}
use Rattle.gates.proofs.Operators.{act_lt}
use Rattle.gates.proofs.Gates.{fires_put, fires_put_free}
use Rattle.rules.specs.Places.{is_c, same_type, upsets, blocks, clashes, may_change}

-- ---- the operators

-- a control that the operator does not upset holds after it as before
keeps_test : ℕ → ℕ → ℕ → Bool
keeps_test o c x = cond (not (eqb c 3) && upsets o c) true (beq (holds c (act o x)) (holds c x))

holds_kept : (o c x : ℕ) → o < 6 → c < 4 → x < 3 → (not (eqb c 3) && upsets o c) ≡ false → holds c (act o x) ≡ holds c x
unfolding keeps_test every upsets is_c act holds
holds_kept o c x lo lc lx quiet =
    beq_same (holds c (act o x)) (holds c x)
    (if_not (not (eqb c 3) && upsets o c) (beq (holds c (act o x)) (holds c x)) (triple_at keeps_test 6 4 3 refl o c x lo lc lx) quiet)

-- operators of one type commute
commuting_test : ℕ → ℕ → ℕ → Bool
commuting_test a b x = cond (same_type a b) (eqb (act a (act b x)) (act b (act a x))) true

types_commute : (a b x : ℕ) → a < 6 → b < 6 → x < 3 → same_type a b ≡ true → act a (act b x) ≡ act b (act a x)
unfolding commuting_test every same_type is_c act
types_commute a b x la lb lx same =
    eqb-true (act a (act b x)) (act b (act a x))
    (if_so (same_type a b) (eqb (act a (act b x)) (act b (act a x))) (triple_at commuting_test 6 6 3 refl a b x la lb lx) same)

-- ---- one gate

-- what a gate with operator o makes of its target's digit x: b says whether it fires
abbrev pub turned : Bool → ℕ → ℕ → ℕ
turned b o x = cond b (act o x) x

pub turned_lt : (b : Bool) (o x : ℕ) → x < 3 → turned b o x < 3
turned_lt true o x lt = act_lt o x
turned_lt false o x lt = lt

applied_here : (g : Gate) (p : ℕ) → applied g p ≡ put 3 g.target p (turned (fires g p) g.operator (digit 3 g.target p))
unfolding applied changed
applied_here g p = go (fires g p)
  where
    go : (b : Bool) → cond b (put 3 g.target p (act g.operator (digit 3 g.target p))) p
        ≡ put 3 g.target p (turned b g.operator (digit 3 g.target p))
    go true = refl
    go false = sym (put_same 3 g.target p)

pub applied_puts : (g : Gate) (t p : ℕ) → g.target ≡ t → applied g p ≡ put 3 t p (turned (fires g p) g.operator (digit 3 t p))
applied_puts g t p e = applied_here g p ∙ ap (λ (u : ℕ). put 3 u p (turned (fires g p) g.operator (digit 3 u p))) e

-- a gate that does not block another leaves it firing or not
still_fires : (n : ℕ) (g h : Gate) (p : ℕ) → IsGate n g → blocks g h ≡ false → fires h (applied g p) ≡ fires h p
unfolding blocks
still_fires n g h p ok free =
    let x : ℕ = digit 3 g.target p in
    let lx : digit 3 g.target p < 3 = digit_lt 3 g.target p (omega arith) in
    let lc : control h g.target < 4 = digit_lt 4 g.target h.controls (omega arith) in
    let lo : g.operator < 6 = omega (arith, ok.op_high) in
    ap (fires h) (applied_here g p)
    ∙ fires_put 3 h.controls p g.target (turned (fires g p) g.operator (digit 3 g.target p)) (turned_lt (fires g p) g.operator (digit 3 g.target p) lx)
    (go (fires g p) (holds_kept g.operator (control h g.target) (digit 3 g.target p) lo lc lx free))
  where
    go : (b : Bool) → holds (control h g.target) (act g.operator (digit 3 g.target p)) ≡ holds (control h g.target) (digit 3 g.target p)
        → holds (control h g.target) (turned b g.operator (digit 3 g.target p)) ≡ holds (control h g.target) (digit 3 g.target p)
    go true e = e
    go false e = refl

-- ---- two gates one after the other

-- on one target they compose their operators
pub on_one_target : (g h : Gate) (t p : ℕ) → g.target ≡ t → h.target ≡ t → control h t ≡ 3
    → applied h (applied g p) ≡ put 3 t p (turned (fires h p) h.operator (turned (fires g p) g.operator (digit 3 t p)))
on_one_target g h t p eg eh own =
    let d : ℕ = turned (fires g p) g.operator (digit 3 t p) in
    let ld : turned (fires g p) g.operator (digit 3 t p) < 3 = turned_lt (fires g p) g.operator (digit 3 t p) (digit_lt 3 t p (omega arith)) in
    ap (applied h) (applied_puts g t p eg)
    ∙ applied_puts h t (put 3 t p d) eh
    ∙ rw (fires_put_free 3 h.controls p t d ld own, digit_put_same 3 t p d ld, put_put 3 t p d _ ld)

-- on two targets, where the first does not block the second, they put two digits
on_two_targets : (n : ℕ) (g h : Gate) (p : ℕ) → IsGate n g → (h.target ≡ g.target → ⊥) → blocks g h ≡ false
    → applied h (applied g p)
    ≡ put 3 h.target (put 3 g.target p (turned (fires g p) g.operator (digit 3 g.target p))) (turned (fires h p) h.operator (digit 3 h.target p))
on_two_targets n g h p ok ne free =
    let ld = turned_lt (fires g p) g.operator (digit 3 g.target p) (digit_lt 3 g.target p (omega arith)) in
    applied_here h (applied g p)
    ∙ rw (still_fires n g h p ok free, applied_here g p, digit_put_other 3 h.target g.target p _ ld ne)

-- gates that may change places commute
pub commute : (n : ℕ) (g h : Gate) → IsGate n g → IsGate n h → may_change g h ≡ true → (p : ℕ) → applied h (applied g p) ≡ applied g (applied h p)
unfolding may_change clashes
commute n g h okg okh may p = go (ℕ_discrete h.target g.target)
  where
    no_reason : (clashes g h || blocks g h || blocks h g) ≡ false
    no_reason = not-true (clashes g h || blocks g h || blocks h g) may

    no_reason_yet : (clashes g h || blocks g h) ≡ false
    no_reason_yet = or_left (clashes g h || blocks g h) (blocks h g) no_reason

    x : ℕ
    x = digit 3 g.target p

    one_type : h.target ≡ g.target → same_type g.operator h.operator ≡ true
    one_type e = not-false (same_type g.operator h.operator) (rw (eq-eqb g.target h.target (sym e)) at (or_left (clashes g h) (blocks g h) no_reason_yet))

    exchanged : same_type g.operator h.operator ≡ true → (b c : Bool)
        → turned c h.operator (turned b g.operator x) ≡ turned b g.operator (turned c h.operator x)
    exchanged same true true =
        sym (types_commute g.operator h.operator x (omega (arith, okg.op_high)) (omega (arith, okh.op_high)) (digit_lt 3 g.target p (omega arith)) same)
    exchanged same true false = refl
    exchanged same false c = refl

    below : (g : Gate) → turned (fires g p) g.operator (digit 3 g.target p) < 3
    below g = turned_lt (fires g p) g.operator (digit 3 g.target p) (digit_lt 3 g.target p (omega arith))

    go : Dec (h.target ≡ g.target) → applied h (applied g p) ≡ applied g (applied h p)
    go (yes e) =
        on_one_target g h g.target p refl e (ap (control h) (sym e) ∙ okh.own)
        ∙ ap (put 3 g.target p) (exchanged (one_type e) (fires g p) (fires h p))
        ∙ sym (on_one_target h g g.target p e refl okg.own)
    go (no ne) =
        on_two_targets n g h p okg ne (or_right (clashes g h) (blocks g h) no_reason_yet)
        ∙ put_swap 3 h.target g.target p _ _ (below g) (below h) ne
        ∙ sym (on_two_targets n h g p okh (λ e. ne (sym e)) (or_right (clashes g h || blocks g h) (blocks h g) no_reason))
