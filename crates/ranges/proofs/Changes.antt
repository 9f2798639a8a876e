-- A list after stores: what holds of each element still, stores that change nothing, and what stands in a list whose start was filled. Assumes nothing.
use mathlib.Core.Path.{◌≡◌, refl, sym, ap, ◌∙◌, subst}
use mathlib.Core.List.{List, [], ◌∷◌, ◌++◌}
use Prim.Native.Nat.{ℕ, zero, suc, ◌+◌, ◌-◌, ◌≤◌, ◌<◌}
use native.Mathlib.Nat.{add-zero, suc-add, add-suc}
use native.Mathlib.Decide.{ℕ_discrete}
use native.Mathlib.Omega.{arith}
use lib.ListN.{length, get_or, set, drop, get_or-append}
use lib.Seq.{sets, set-get_or, get_or-set_same, get_or-set_other, get_or-append-add, get_or-drop}
use Rattle.ranges.specs.Ranges.{span}
use Rattle.ranges.specs.Lists.{Each}
use Rattle.ranges.proofs.Spans.{length_span, span_at}

module _ {A : Type 0} where
  -- one element replaced
  pub each_set : (P : A → Type 0) (xs : List A) (i : ℕ) (x : A) → Each P xs → P x → Each P (set xs i x)
  each_set P [] i x e p = tt
  each_set P (y ∷ xs) zero x e p = (p, e.1)
  each_set P (y ∷ xs) (suc i) x e p = (e.0, each_set P xs i x e.1 p)

  -- what is said of an index and the element there
  pub at_set : (P : ℕ → A → Type 0) (xs : List A) (i : ℕ) (x d : A) → i < length xs → P i x → (k : ℕ) → ((k ≡ i → ⊥) → P k (get_or xs k d)) → P k (get_or (set xs i x) k d)
  at_set P xs i x d lt p k o = go (ℕ_discrete k i)
    where
      go : Dec (k ≡ i) → P k (get_or (set xs i x) k d)
      go (yes q) = subst (λ (j : ℕ). P j (get_or (set xs i x) j d)) (sym q) (subst (P i) (sym (get_or-set_same xs i x d lt)) p)
      go (no ne) = subst (P k) (sym (get_or-set_other xs i k x d ne)) (o ne)

  -- stored where it stands already
  pub sets_same : (vs xs : List A) (i : ℕ) (d : A) → ((k : ℕ) → k < length vs → get_or xs (i + k) d ≡ get_or vs k d) → sets xs i vs ≡ xs
  sets_same [] xs i d h = refl
  sets_same (v ∷ vs) xs i d h =
      let first : get_or xs i d ≡ v = rw (add-zero i) at (h 0 (omega arith)) in
      let same : set xs i v ≡ xs = rw (← first) (set-get_or xs i d) in
      rw same (sets_same vs xs (suc i) d (λ k lt. rw (suc-add, ← add-suc i k) (h (suc k) (omega arith))))

  -- what was filled, and what a filling loop has not come to yet
  pub filled_at : (f : ℕ → A) (xs : List A) (j k : ℕ) (d : A) → k < j → get_or (span f 0 j ++ drop j xs) k d ≡ f k
  filled_at f xs j k d lt =
      get_or-append (span f 0 j) (drop j xs) d k (rw (length_span f 0 j) lt)
      ∙ span_at f 0 j k d lt
      ∙ ap f (omega arith)

  pub filled_rest : (f : ℕ → A) (xs : List A) (j k : ℕ) (d : A) → j ≤ k → get_or (span f 0 j ++ drop j xs) k d ≡ get_or xs k d
  filled_rest f xs j k d le =
      let n : length (span f 0 j) + (k - j) ≡ k = omega (arith, length_span f 0 j) in
      let m : j + (k - j) ≡ k = omega arith in
      ap (λ (x : ℕ). get_or (span f 0 j ++ drop j xs) x d) (sym n)
      ∙ get_or-append-add (span f 0 j) (drop j xs) (k - j) d
      ∙ get_or-drop j xs (k - j) d
      ∙ ap (λ (x : ℕ). get_or xs x d) m
