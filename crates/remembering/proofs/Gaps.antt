-- Lists with gaps: the gates that stand in them, how many of them stand before a place, and what becomes of them where a gate is replaced or goes.
-- Every gate passes a gap, and no rule fits it with one. Assumes nothing.
use Rattle.std.proofs.Common.{◌≡◌, refl, sym, ap, ◌∙◌, ⊎_elim, Bool, true, false, cond, not, ◌&&◌, List, [], ◌∷◌, ℕ, zero, suc, ◌+◌, ◌<◌, ◌≤◌, add-one, arith, eqb, length, set, ne_eqb}
use Rattle.ranges.specs.Lists.{Each}
use Rattle.ranges.proofs.Bools.{decide}
use Rattle.digits.specs.Digits.{digit}
use Rattle.gates.specs.declared.Gate.{Gate}
use Rattle.gates.specs.Gates.{control, IsGate}
use Rattle.rules.specs.Places.{is_c, upsets, blocks, clashes, may_change}
use Rattle.rules.specs.Rules.{same_lines, cancels, merges, reduces, fits}
use Rattle.rules.specs.Tidying.{gate, without}
use Rattle.remembering.specs.Inner.Buffers.{gap, is_gap, ungapped, rank}

-- ---- one more in front

module _ (g : Gate) (gs : List Gate) where
  ungapped_gap : is_gap g ≡ true → ungapped (g ∷ gs) ≡ ungapped gs
  unfolding ungapped
  ungapped_gap e = rw e

  ungapped_gate : is_gap g ≡ false → ungapped (g ∷ gs) ≡ g ∷ ungapped gs
  unfolding ungapped
  ungapped_gate e = rw e

  rank_gap : (p : ℕ) → is_gap g ≡ true → rank (g ∷ gs) (suc p) ≡ rank gs p
  unfolding rank
  rank_gap p e = rw e

  rank_gate : (p : ℕ) → is_gap g ≡ false → rank (g ∷ gs) (suc p) ≡ suc (rank gs p)
  unfolding rank
  rank_gate p e = rw e

  rank_zero : rank (g ∷ gs) zero ≡ 0
  unfolding rank
  rank_zero = refl

pub ungapped_all : (gs : List Gate) → Each (λ g. is_gap g ≡ false) gs → ungapped gs ≡ gs
unfolding ungapped
ungapped_all [] e = refl
ungapped_all (g ∷ gs) e = rw e.0 (ap (λ (l : List Gate). g ∷ l) (ungapped_all gs e.1))

pub ungapped_each : (P : Gate → Type 0) (gs : List Gate) → Each P gs → Each P (ungapped gs)
unfolding ungapped
ungapped_each P [] e = tt
ungapped_each P (g ∷ gs) e =
    ⊎_elim (λ (q : is_gap g ≡ true). rw (ungapped_gap g gs q) (ungapped_each P gs e.1)) (λ (q : is_gap g ≡ false). rw (ungapped_gate g gs q) (e.0, ungapped_each P gs e.1))
    (decide (is_gap g))

-- ---- how many stand before a place

pub rank_start : (gs : List Gate) → rank gs 0 ≡ 0
unfolding rank
rank_start [] = refl
rank_start (g ∷ gs) = refl

pub rank_all : (gs : List Gate) (p : ℕ) → length gs ≤ p → rank gs p ≡ length (ungapped gs)
unfolding ungapped rank
rank_all [] p le = refl
rank_all (g ∷ gs) zero le = absurd (omega arith)
rank_all (g ∷ gs) (suc p) le = go (is_gap g) (rank_all gs p (omega arith))
  where
    go : (x : Bool) → rank gs p ≡ length (ungapped gs) → cond x (rank gs p) (suc (rank gs p)) ≡ length (cond x (ungapped gs) (g ∷ ungapped gs))
    go true h = h
    go false h = ap suc h

pub rank_le : (gs : List Gate) (p : ℕ) → rank gs p ≤ length (ungapped gs)
unfolding ungapped rank
rank_le [] p = omega arith
rank_le (g ∷ gs) zero = omega arith
rank_le (g ∷ gs) (suc p) = go (is_gap g) (rank_le gs p)
  where
    go : (x : Bool) → rank gs p ≤ length (ungapped gs) → cond x (rank gs p) (suc (rank gs p)) ≤ length (cond x (ungapped gs) (g ∷ ungapped gs))
    go true h = h
    go false h = omega arith

pub rank_place : (gs : List Gate) (p : ℕ) → rank gs p ≤ p
unfolding rank
rank_place [] p = omega arith
rank_place (g ∷ gs) zero = omega arith
rank_place (g ∷ gs) (suc p) = go (is_gap g) (rank_place gs p)
  where
    go : (x : Bool) → rank gs p ≤ p → cond x (rank gs p) (suc (rank gs p)) ≤ suc p
    go true h = omega arith
    go false h = omega arith

pub rank_mono : (gs : List Gate) (p q : ℕ) → p ≤ q → rank gs p ≤ rank gs q
unfolding rank
rank_mono [] p q le = omega arith
rank_mono (g ∷ gs) zero q le = omega arith
rank_mono (g ∷ gs) (suc p) zero le = absurd (omega arith)
rank_mono (g ∷ gs) (suc p) (suc q) le = go (is_gap g) (rank_mono gs p q (omega arith))
  where
    go : (x : Bool) → rank gs p ≤ rank gs q → cond x (rank gs p) (suc (rank gs p)) ≤ cond x (rank gs q) (suc (rank gs q))
    go true h = h
    go false h = omega arith

-- over a gap, and over a gate
after_gap : (gs : List Gate) (p : ℕ) → p < length gs → is_gap (gate gs p) ≡ true → rank gs (suc p) ≡ rank gs p
after_gap [] p lt e = absurd (omega arith)
after_gap (g ∷ gs) zero lt e = rank_gap g gs 0 e ∙ rank_start gs ∙ sym (rank_zero g gs)
after_gap (g ∷ gs) (suc p) lt e =
    ⊎_elim (λ (q : is_gap g ≡ true). rank_gap g gs (suc p) q ∙ after_gap gs p (omega arith) e ∙ sym (rank_gap g gs p q))
    (λ (q : is_gap g ≡ false). rank_gate g gs (suc p) q ∙ ap suc (after_gap gs p (omega arith) e) ∙ sym (rank_gate g gs p q)) (decide (is_gap g))

after_gate : (gs : List Gate) (p : ℕ) → p < length gs → is_gap (gate gs p) ≡ false → rank gs (suc p) ≡ suc (rank gs p)
after_gate [] p lt e = absurd (omega arith)
after_gate (g ∷ gs) zero lt e = rank_gate g gs 0 e ∙ ap suc (rank_start gs ∙ sym (rank_zero g gs))
after_gate (g ∷ gs) (suc p) lt e =
    ⊎_elim (λ (q : is_gap g ≡ true). rank_gap g gs (suc p) q ∙ after_gate gs p (omega arith) e ∙ sym (ap suc (rank_gap g gs p q)))
    (λ (q : is_gap g ≡ false). rank_gate g gs (suc p) q ∙ ap suc (after_gate gs p (omega arith) e ∙ sym (rank_gate g gs p q))) (decide (is_gap g))

module _ (gs : List Gate) (p : ℕ) (lt : p < length gs) where
  pub rank_next_gap : is_gap (gate gs p) ≡ true → rank gs (p + 1) ≡ rank gs p
  rank_next_gap e = rw (add-one p) (after_gap gs p lt e)

  pub rank_next : is_gap (gate gs p) ≡ false → rank gs (p + 1) ≡ rank gs p + 1
  rank_next e = rw (add-one p, add-one (rank gs p)) (after_gate gs p lt e)

pub rank_rises : (gs : List Gate) (p q : ℕ) → p < length gs → is_gap (gate gs p) ≡ false → p < q → rank gs p < rank gs q
rank_rises gs p q lt e l = omega (arith, rank_next gs p lt e, rank_mono gs (p + 1) q (omega arith))

pub rank_lt : (gs : List Gate) (p : ℕ) → p < length gs → is_gap (gate gs p) ≡ false → rank gs p < length (ungapped gs)
rank_lt gs p lt e = omega (arith, rank_next gs p lt e, rank_le gs (p + 1))

pub gate_ungapped : (gs : List Gate) (p : ℕ) → p < length gs → is_gap (gate gs p) ≡ false → gate (ungapped gs) (rank gs p) ≡ gate gs p
gate_ungapped [] p lt e = absurd (omega arith)
gate_ungapped (g ∷ gs) zero lt e = rw (ungapped_gate g gs e, rank_zero g gs)
gate_ungapped (g ∷ gs) (suc p) lt e =
    ⊎_elim (λ (q : is_gap g ≡ true). rw (ungapped_gap g gs q, rank_gap g gs p q) (gate_ungapped gs p (omega arith) e))
    (λ (q : is_gap g ≡ false). rw (ungapped_gate g gs q, rank_gate g gs p q) (gate_ungapped gs p (omega arith) e)) (decide (is_gap g))

-- gate x stands at a place
pub record Standing (gs : List Gate) (x : ℕ) : Type 0 where
  pub place : ℕ
  pub inside : place < length gs
  pub real : is_gap (gate gs place) ≡ false
  pub is : rank gs place ≡ x

stands_later : (g : Gate) (gs : List Gate) (x y : ℕ) → ((p : ℕ) → rank gs p ≡ x → rank (g ∷ gs) (suc p) ≡ y) → Standing gs x → Standing (g ∷ gs) y
stands_later g gs x y up w = record { place = suc w.place; inside = omega (arith, w.inside); real = w.real; is = up w.place w.is }

pub stands_at : (gs : List Gate) (x : ℕ) → x < length (ungapped gs) → Standing gs x
unfolding ungapped
stands_at [] x lt = absurd (omega arith)
stands_at (g ∷ gs) zero lt =
    ⊎_elim (λ (q : is_gap g ≡ true). stands_later g gs 0 0 (λ p e. rank_gap g gs p q ∙ e) (stands_at gs 0 (rw (ungapped_gap g gs q) at lt)))
    (λ (q : is_gap g ≡ false). record { place = 0; inside = omega arith; real = q; is = rank_zero g gs }) (decide (is_gap g))
stands_at (g ∷ gs) (suc x) lt =
    ⊎_elim (λ (q : is_gap g ≡ true). stands_later g gs (suc x) (suc x) (λ p e. rank_gap g gs p q ∙ e) (stands_at gs (suc x) (rw (ungapped_gap g gs q) at lt)))
    (λ (q : is_gap g ≡ false).
    let l : suc x < suc (length (ungapped gs)) = rw (ungapped_gate g gs q) at lt in
    stands_later g gs x (suc x) (λ p e. rank_gate g gs p q ∙ ap suc e) (stands_at gs x (omega arith))) (decide (is_gap g))

-- ---- a gate is replaced, and a gate goes

pub rank_before : (gs : List Gate) (p q : ℕ) (g : Gate) → q ≤ p → rank (set gs p g) q ≡ rank gs q
unfolding rank
rank_before [] p q g le = refl
rank_before (h ∷ gs) zero zero g le = refl
rank_before (h ∷ gs) zero (suc q) g le = absurd (omega arith)
rank_before (h ∷ gs) (suc p) zero g le = refl
rank_before (h ∷ gs) (suc p) (suc q) g le = rw (rank_before gs p q g (omega arith))

pub ungapped_set : (gs : List Gate) (p : ℕ) (g : Gate) → p < length gs → is_gap (gate gs p) ≡ false → is_gap g ≡ false → ungapped (set gs p g) ≡ set (ungapped gs) (rank gs p) g
ungapped_set [] p g lt e n = absurd (omega arith)
ungapped_set (h ∷ gs) zero g lt e n = rw (ungapped_gate g gs n, ungapped_gate h gs e, rank_zero h gs)
ungapped_set (h ∷ gs) (suc p) g lt e n =
    ⊎_elim (λ (q : is_gap h ≡ true). rw (ungapped_gap h (set gs p g) q, ungapped_gap h gs q, rank_gap h gs p q) (ungapped_set gs p g (omega arith) e n))
    (λ (q : is_gap h ≡ false).
    rw (ungapped_gate h (set gs p g) q, ungapped_gate h gs q, rank_gate h gs p q) (ap (λ (l : List Gate). h ∷ l) (ungapped_set gs p g (omega arith) e n)))
    (decide (is_gap h))

pub ungapped_gone : (gs : List Gate) (p : ℕ) (g : Gate) → p < length gs → is_gap (gate gs p) ≡ false → is_gap g ≡ true → ungapped (set gs p g) ≡ without (ungapped gs) (rank gs p)
unfolding without
ungapped_gone [] p g lt e n = absurd (omega arith)
ungapped_gone (h ∷ gs) zero g lt e n = rw (ungapped_gap g gs n, ungapped_gate h gs e, rank_zero h gs)
ungapped_gone (h ∷ gs) (suc p) g lt e n =
    ⊎_elim (λ (q : is_gap h ≡ true). rw (ungapped_gap h (set gs p g) q, ungapped_gap h gs q, rank_gap h gs p q) (ungapped_gone gs p g (omega arith) e n))
    (λ (q : is_gap h ≡ false).
    rw (ungapped_gate h (set gs p g) q, ungapped_gate h gs q, rank_gate h gs p q) (ap (λ (l : List Gate). h ∷ l) (ungapped_gone gs p g (omega arith) e n)))
    (decide (is_gap h))

pub gate_real : (g : Gate) → IsGate 6 g → is_gap g ≡ false
unfolding is_gap
gate_real g ok = ne_eqb g.operator 0 (λ e. omega (arith, ok.op_low))

-- ---- a gate and a gap

not_six : (t : ℕ) → t < 6 → eqb t 6 ≡ false
not_six t lt = ne_eqb t 6 (λ e. omega arith)

gap_free : (t : ℕ) → t < 6 → control gap t ≡ 3
unfolding digit
gap_free zero lt = refl
gap_free (suc zero) lt = refl
gap_free (suc (suc zero)) lt = refl
gap_free (suc (suc (suc zero))) lt = refl
gap_free (suc (suc (suc (suc zero)))) lt = refl
gap_free (suc (suc (suc (suc (suc zero))))) lt = refl
gap_free (suc (suc (suc (suc (suc (suc t)))))) lt = absurd (omega arith)

pub gap_passed : (g : Gate) → IsGate 6 g → may_change g gap ≡ true
unfolding may_change clashes blocks upsets is_c
gap_passed g ok = rw (not_six g.target ok.on_line, gap_free g.target ok.on_line) (never (not (eqb (control g 6) 3)))
  where
    never : (x : Bool) → not (x && false) ≡ true
    never true = refl
    never false = refl

pub gap_unfit : (g : Gate) → IsGate 6 g → fits g gap ≡ false
unfolding fits cancels merges reduces same_lines
gap_unfit g ok = rw (not_six g.target ok.on_line) refl
