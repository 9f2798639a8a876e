-- A run of stores into a list, `sets l i vs`: what stands where afterwards, one run after another, and the loop that makes a run. Assumes nothing.
use mathlib.Core.Path.{◌≡◌, refl, sym, ap, ◌∙◌}
use mathlib.Core.List.{List, [], ◌∷◌, ◌++◌, append_assoc}
use Prim.Native.Nat.{ℕ, suc, ◌+◌, ◌≤◌, ◌<◌}
use native.Mathlib.Nat.{add-zero, add-suc, suc-add}
use native.Mathlib.Numerals.{add-one}
use native.Mathlib.Omega.{arith}
use lib.ListN.{length, get_or, set, take, drop, get_or-append}
use lib.Seq.{sets, sets-eq, set_comm, length-sets, length-take-le, take-suc, take_all, get_or-append-add, get_or-set_other}

module _ {A : Type 0} where
  -- inside the run stands what was stored
  pub get_d_sets : (vs l : List A) (i k : ℕ) (d : A) → i + length vs ≤ length l → k < length vs → get_or (sets l i vs) (i + k) d ≡ get_or vs k d
  get_d_sets vs l i k d fits lt =
      let e : length (take i l) ≡ i = length-take-le i l (omega arith) in
      let h = get_or-append-add (take i l) (vs ++ drop (i + length vs) l) k d in
      rw (sets-eq vs l i fits, append_assoc) ((rw e at h) ∙ get_or-append vs (drop (i + length vs) l) d k lt)

  -- before it and behind it stands what stood there
  pub get_d_sets_below : (vs l : List A) (i k : ℕ) (d : A) → k < i → get_or (sets l i vs) k d ≡ get_or l k d
  get_d_sets_below [] l i k d lt = refl
  get_d_sets_below (v ∷ vs) l i k d lt = get_d_sets_below vs (set l i v) (suc i) k d (omega arith) ∙ get_or-set_other l i k v d (omega arith)

  pub get_d_sets_above : (vs l : List A) (i k : ℕ) (d : A) → i + length vs ≤ k → get_or (sets l i vs) k d ≡ get_or l k d
  get_d_sets_above [] l i k d le = refl
  get_d_sets_above (v ∷ vs) l i k d le = get_d_sets_above vs (set l i v) (suc i) k d (omega arith) ∙ get_or-set_other l i k v d (omega arith)

  -- one run after another is one run
  pub sets_append : (vs ws l : List A) (i : ℕ) → sets l i (vs ++ ws) ≡ sets (sets l i vs) (i + length vs) ws
  sets_append [] ws l i = rw add-zero
  sets_append (v ∷ vs) ws l i = rw (add-suc, ← suc-add i (length vs)) (sets_append vs ws (set l i v) (suc i))

  -- runs that do not meet may be made in either order
  set_sets : (vs l : List A) (i j : ℕ) (u : A) → i < j → set (sets l j vs) i u ≡ sets (set l i u) j vs
  set_sets [] l i j u lt = refl
  set_sets (v ∷ vs) l i j u lt =
      set_sets vs (set l j v) i (suc j) u (omega arith) ∙ ap (λ (x : List A). sets x (suc j) vs) (set_comm l j i v u (λ e. omega arith))

  pub sets_sets : (us vs l : List A) (i j : ℕ) → i + length us ≤ j → sets (sets l j vs) i us ≡ sets (sets l i us) j vs
  sets_sets [] vs l i j le = refl
  sets_sets (u ∷ us) vs l i j le =
      ap (λ (x : List A). sets x (suc i) us) (set_sets vs l i j u (omega arith)) ∙ sets_sets us vs (set l i u) (suc i) j (omega arith)

  -- a run right before another
  pub sets_before : (us vs l : List A) (i j : ℕ) → i + length us ≡ j → sets (sets l j vs) i us ≡ sets l i (us ++ vs)
  sets_before us vs l i j e =
      sets_sets us vs l i j (omega arith) ∙ ap (λ (x : ℕ). sets (sets l i us) x vs) (sym e) ∙ sym (sets_append us vs l i)

  -- ---- a loop that stores vs from place i on, after k turns

  pub record Storing (vs l : List A) (i : ℕ) (l' : List A) (k : ℕ) : Type 0 where
    pub fits : i + length vs ≤ length l
    pub within : k ≤ length vs
    pub stored : l' ≡ sets l i (take k vs)

  pub storing_starts : (vs l : List A) (i : ℕ) → i + length vs ≤ length l → Storing vs l i l 0
  storing_starts vs l i fits = record { fits = fits; within = omega arith; stored = refl }

  module _ (vs l : List A) (i : ℕ) (l' : List A) (k : ℕ) (s : Storing vs l i l' k) where
    pub storing_long : length l' ≡ length l
    storing_long = rw s.stored (length-sets l i (take k vs))

    pub storing_place : k < length vs → i + k < length l'
    storing_place lt = omega (arith, storing_long, s.fits)

    pub storing_next : (v d : A) → k < length vs → v ≡ get_or vs k d → Storing vs l i (set l' (i + k) v) (k + 1)
    storing_next v d lt e =
        record {
          fits = s.fits;
          within = omega arith;
          stored = rw (s.stored, e, add-one k, take-suc vs k d lt, sets_append, length-take-le k vs (omega arith));
        }

    pub storing_ends : length vs ≤ k → l' ≡ sets l i vs
    storing_ends le = s.stored ∙ rw (take_all k vs le)
