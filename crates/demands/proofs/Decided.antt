-- What rows in order decide: a refusal is given exactly if the first row that applies has its number and place, and the call accepts exactly if
-- none applies. Assumes nothing.
use mathlib.Core.Path.{◌≡◌, refl, sym, ap, ◌∙◌}
use mathlib.Core.Logic.{◌⊎◌, ⊎_elim, ◌↔◌}
use mathlib.Core.Bool.{Bool, true, false, cond, true≢false, false≢true}
use mathlib.Core.List.{List, [], ◌∷◌}
use Prim.Native.Nat.{ℕ}
use Rattle.card.specs.Card.{Answer, Answer.accepted, Answer.refused, refusing}
use Rattle.card.proofs.Cards.{not_accepted}
use Rattle.demands.specs.CardRows.{Row, decided, FirstIs, NoneApplies}

module _ (vs : List ℕ) where
  pub first_refuses : (rows : List Row) (k p : ℕ) → FirstIs rows k p → decided rows (accepted vs) ≡ refused k p
  unfolding decided FirstIs refusing
  first_refuses [] k p f = absurd f
  first_refuses (row ∷ rows) k p f =
      ⊎_elim (λ (h : (row.applies ≡ true) × (row.number ≡ k) × (row.place ≡ p)). rw (h.0, h.1, h.2))
      (λ (h : (row.applies ≡ false) × FirstIs rows k p). rw h.0 (first_refuses rows k p h.1)) f

  pub refused_first : (rows : List Row) (k p : ℕ) → decided rows (accepted vs) ≡ refused k p → FirstIs rows k p
  unfolding decided FirstIs refusing
  refused_first [] k p e = not_accepted k p vs (sym e)
  refused_first (row ∷ rows) k p e = go row.applies refl e (refused_first rows k p)
    where
      go : (b : Bool) → row.applies ≡ b → cond b (refused row.number row.place) (decided rows (accepted vs)) ≡ refused k p
          → (decided rows (accepted vs) ≡ refused k p → FirstIs rows k p)
          → ((row.applies ≡ true) × (row.number ≡ k) × (row.place ≡ p)) ⊎ ((row.applies ≡ false) × FirstIs rows k p)
      go true q e ih =
          let n : row.number ≡ k = cc in
          let l : row.place ≡ p = cc in
          ◌⊎◌.inl (q, n, l)
      go false q e ih = ◌⊎◌.inr (q, ih e)

  pub none_accepts : (rows : List Row) → NoneApplies rows → decided rows (accepted vs) ≡ accepted vs
  unfolding decided NoneApplies refusing
  none_accepts [] h = refl
  none_accepts (row ∷ rows) h = rw h.0 (none_accepts rows h.1)

  pub accepted_none : (rows : List Row) → decided rows (accepted vs) ≡ accepted vs → NoneApplies rows
  unfolding decided NoneApplies refusing
  accepted_none [] e = tt
  accepted_none (row ∷ rows) e = go row.applies refl e (accepted_none rows)
    where
      go : (b : Bool) → row.applies ≡ b → cond b (refused row.number row.place) (decided rows (accepted vs)) ≡ accepted vs
          → (decided rows (accepted vs) ≡ accepted vs → NoneApplies rows) → (row.applies ≡ false) × NoneApplies rows
      go true q e ih = not_accepted row.number row.place vs e
      go false q e ih = (q, ih e)

-- an accepted answer has the values that stand behind the rows
pub accepted_values : (rows : List Row) (us vs : List ℕ) → decided rows (accepted us) ≡ accepted vs → us ≡ vs
unfolding decided refusing
accepted_values [] us vs e = cc
accepted_values (row ∷ rows) us vs e = go row.applies e (accepted_values rows us vs)
  where
    go : (b : Bool) → cond b (refused row.number row.place) (decided rows (accepted us)) ≡ accepted vs → (decided rows (accepted us) ≡ accepted vs → us ≡ vs) → us ≡ vs
    go true e ih = not_accepted row.number row.place vs e
    go false e ih = ih e
