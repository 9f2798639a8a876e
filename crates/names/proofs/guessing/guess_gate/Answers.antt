-- `names::guessing::guess_gate` meets its contract: the controls below line k are packed, and the place is behind them. Assumes nothing.
use Rattle.std.proofs.Common.{◌≡◌, ℕ, ◌+◌, ◌%◌, Bool, true, false, cond, get_or, Some, None, sym, ◌∙◌, arith}
use Rattle.std.proofs.lemmas.Option.{cond_some, none-some}
use Rattle.names.specs.Inner.Guesses.{stands, guessed}
use Rattle.names.proofs.GuessTurns.{guess_start, guess_place, guess_weight, guess_small, guess_next}
use Rattle.names.proofs.guessing.guess_gate.Goals as goal
use Rattle.names.proofs.guessing.guess_gate.Goals.{After-from, in-Some, in-None}

-- the value and the next place, by what reading a control said
here : (s : Bool) (x v e f w : ℕ) → cond s (Some x) None ≡ Some v → w ≡ v → f ≡ e + 5 → (w ≡ cond s x 3) × (f ≡ cond s (e + 5) e)
here true x v e f w q p r = (p ∙ sym (cond_some true x v q).1, r)
here false x v e f w q p r = absurd (none-some v q)

not_here : (s : Bool) (x e f w : ℕ) → cond s (Some x) None ≡ None → w ≡ 3 → f ≡ e → (w ≡ cond s x 3) × (f ≡ cond s (e + 5) e)
not_here true x e f w q p r = absurd (none-some x (sym q))
not_here false x e f w q p r = (p, r)

module _ (c : After-from) where
  read : (let l = c.args.line.now in let e = c.loop-k.e in let s = stands l e c.loop-k.k in
      (c.from.result ≡ cond s (get_or l (e + 4) 0 % 4) 3) × (c.match-control_at.e ≡ cond s (e + 5) e))
  read =
      let s = stands c.args.line.now c.loop-k.e c.loop-k.k in
      elim c.match-control_at.branch [
        | in-Some w ↦ here s _ _ _ _ _ (sym c.control_at.ensures ∙ w.in-Some.is) (c.from.ensures ∙ w.value-is) w.e-is
        | in-None w ↦ not_here s _ _ _ _ (sym c.control_at.ensures ∙ w.in-None.is) (c.from.ensures ∙ w.value-is) w.e-is
      ]

pub loop-k-init : goal.loop-k-init
loop-k-init c = guess_start _

pub control_at-requires : goal.control_at-requires
control_at-requires c = (guess_place _ _ _ _ _ c.loop-k.invariant, c.loop-k-test.true)

pub overflow_add-e : goal.overflow_add-e
overflow_add-e c = omega (arith, guess_place _ _ _ _ _ c.loop-k.invariant)

pub overflow_mul-controls : goal.overflow_mul-controls
overflow_mul-controls c = omega (arith, guess_small _ _ _ _ _ c.loop-k.invariant c.loop-k-test.true _ (read c).0)

pub overflow_add-controls : goal.overflow_add-controls
overflow_add-controls c = omega (arith, guess_small _ _ _ _ _ c.loop-k.invariant c.loop-k-test.true _ (read c).0)

pub overflow_mul-weight : goal.overflow_mul-weight
overflow_mul-weight c = omega (arith, guess_weight _ _ _ _ _ c.loop-k.invariant)

pub loop-k-preserved : goal.loop-k-preserved
loop-k-preserved c = guess_next _ _ _ _ _ c.loop-k.invariant c.loop-k-test.true _ (read c).0 _ (read c).1

pub returns : goal.returns
unfolding guessed
returns c =
    let i = c.loop-k.invariant in
    let k : c.loop-k.k ≡ 6 = omega (arith, i.within) in
    let p = rw k at i.packed in
    rw (c.operator_in.ensures, c.byte_at.ensures, p)
