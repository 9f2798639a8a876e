-- The laws of `span`. Assumes nothing.
use mathlib.Core.Path.{◌≡◌, refl, ap, ap₂, ◌∙◌}
use mathlib.Core.List.{List, [], ◌∷◌, ◌++◌, map, reverse, reverse-append}
use Prim.Native.Nat.{ℕ, zero, suc, ◌+◌, ◌-◌, ◌≤◌, ◌<◌}
use native.Mathlib.Nat.{add-zero, zero-add}
use native.Mathlib.Omega.{arith}
use lib.ListN.{length, get_or}
use Rattle.ranges.specs.Ranges.{span}
use Rattle.ranges.specs.Lists.{Each}
use Rattle.ranges.proofs.Counts.{left_suc, left_zero}

module _ {A : Type 0} where
  pub length_span : (f : ℕ → A) (i m : ℕ) → length (span f i m) ≡ m
  unfolding span
  length_span f i zero = refl
  length_span f i (suc m) = ap suc (length_span f (i + 1) m)

  pub span_none : (f : ℕ → A) (i : ℕ) → span f i 0 ≡ []
  unfolding span
  span_none f i = refl

  pub span_cons : (f : ℕ → A) (i m : ℕ) → span f i (suc m) ≡ f i ∷ span f (i + 1) m
  unfolding span
  span_cons f i m = refl

  -- element k
  pub span_at : (f : ℕ → A) (i m k : ℕ) (d : A) → k < m → get_or (span f i m) k d ≡ f (i + k)
  unfolding span
  span_at f i zero k d lt = absurd (omega arith)
  span_at f i (suc m) zero d lt = rw add-zero
  span_at f i (suc m) (suc k) d lt =
      let e : i + 1 + k ≡ i + suc k = omega arith in
      rw (← e) (span_at f (i + 1) m k d (omega arith))

  pub span_ext : (f g : ℕ → A) (i m : ℕ) → ((k : ℕ) → i ≤ k → k < i + m → f k ≡ g k) → span f i m ≡ span g i m
  unfolding span
  span_ext f g i zero h = refl
  span_ext f g i (suc m) h =
      ap₂ (λ (x : A) (l : List A). x ∷ l) (h i (omega arith) (omega arith)) (span_ext f g (i + 1) m (λ k le lt. h k (omega arith) (omega arith)))

  -- one element more at the end
  pub span_snoc : (f : ℕ → A) (i m : ℕ) → span f i (suc m) ≡ span f i m ++ (f (i + m) ∷ [])
  unfolding span
  span_snoc f i zero = rw add-zero
  span_snoc f i (suc m) =
      let e : i + 1 + m ≡ i + suc m = omega arith in
      rw (← e) (ap (λ (l : List A). f i ∷ l) (span_snoc f (i + 1) m))

  -- each element has what each number's has
  pub span_each : (P : A → Type 0) (f : ℕ → A) (i m : ℕ) → ((k : ℕ) → i ≤ k → k < i + m → P (f k)) → Each P (span f i m)
  unfolding span
  span_each P f i zero h = tt
  span_each P f i (suc m) h = (h i (omega arith) (omega arith), span_each P f (i + 1) m (λ k le lt. h k (omega arith) (omega arith)))

  -- what is left at k begins with f k; at the end nothing is left
  pub span_more : (f : ℕ → A) (m k : ℕ) → k < m → span f k (m - k) ≡ f k ∷ span f (k + 1) (m - (k + 1))
  unfolding span
  span_more f m k lt = rw (left_suc m k lt)

  pub span_ends : (f : ℕ → A) (m k : ℕ) → m ≤ k → span f k (m - k) ≡ []
  unfolding span
  span_ends f m k le = rw (left_zero m k le)

pub map_span : {A B : Type 0} (g : A → B) (f : ℕ → A) (i m : ℕ) → map g (span f i m) ≡ span (λ k. g (f k)) i m
unfolding span
map_span g f i zero = refl
map_span {A} {B} g f i (suc m) = ap (λ (l : List B). g (f i) ∷ l) (map_span g f (i + 1) m)

module _ {A : Type 0} where
  -- counting from one later
  pub span_later : (f : ℕ → A) (i m : ℕ) → span f (i + 1) m ≡ span (λ k. f (k + 1)) i m
  unfolding span
  span_later f i zero = refl
  span_later f i (suc m) = ap (λ (l : List A). f (i + 1) ∷ l) (span_later f (i + 1) m)

  -- reversed, it counts down
  pub reverse_span : (f : ℕ → A) (m : ℕ) → reverse (span f 0 m) ≡ span (λ i. f (m - (i + 1))) 0 m
  reverse_span f zero = unfold span in refl
  reverse_span f (suc m) =
      let s : span f 0 (suc m) ≡ span f 0 m ++ (f m ∷ []) = rw (zero-add m) at (span_snoc f 0 m) in
      let r : reverse (span f 0 m ++ (f m ∷ [])) ≡ f m ∷ reverse (span f 0 m) = reverse-append (span f 0 m) (f m ∷ []) in
      let t : span (λ i. f (suc m - (i + 1))) (0 + 1) m ≡ span (λ i. f (m - (i + 1))) 0 m =
      span_later (λ i. f (suc m - (i + 1))) 0 m ∙ span_ext (λ k. f (suc m - (k + 1 + 1))) (λ k. f (m - (k + 1))) 0 m (λ k le lt. ap f (omega arith)) in
      let h : suc m - (0 + 1) ≡ m = omega arith in
      rw (s, r, reverse_span f m, span_cons (λ i. f (suc m - (i + 1))) 0 m, t, h)
