-- Lists in parts: a list as the span of its elements, a span cut at one of its numbers, and what holds of each element of both parts. Assumes nothing.
use mathlib.Core.Path.{◌≡◌, refl, ap, ◌∙◌}
use mathlib.Core.List.{List, [], ◌∷◌, ◌++◌}
use Prim.Native.Nat.{ℕ, zero, suc, ◌+◌, ◌-◌, ◌<◌}
use native.Mathlib.Nat.{zero-add}
use native.Mathlib.Omega.{arith}
use lib.ListN.{length, get_or}
use lib.Seq.{ext_get_or}
use Rattle.ranges.specs.Ranges.{span}
use Rattle.ranges.specs.Lists.{Each, total}
use Rattle.ranges.proofs.Counts.{left_suc}
use Rattle.ranges.proofs.Spans.{length_span, span_at}

module _ {A : Type 0} where
  -- a list is its elements
  pub span_list : (xs : List A) (d : A) → span (λ k. get_or xs k d) 0 (length xs) ≡ xs
  span_list xs d =
      ext_get_or d (span (λ k. get_or xs k d) 0 (length xs)) xs (length_span (λ k. get_or xs k d) 0 (length xs))
      (λ k lt.
      span_at (λ k. get_or xs k d) 0 (length xs) k d (rw (length_span (λ k. get_or xs k d) 0 (length xs)) at lt)
      ∙ ap (λ (j : ℕ). get_or xs j d) (zero-add k))

  -- the numbers from i below e, cut at k
  pub span_cut : (f : ℕ → A) (d i k e : ℕ) → i + d ≡ k → k < e → span f i (e - i) ≡ span f i (k - i) ++ f k ∷ span f (k + 1) (e - (k + 1))
  unfolding span
  span_cut f zero i k e q lt =
      let same : i ≡ k = omega arith in
      let none : k - i ≡ 0 = omega arith in
      rw (none, left_suc e i (omega arith), same)
  span_cut f (suc d) i k e q lt =
      rw (left_suc e i (omega arith), left_suc k i (omega arith))
      (ap (λ (l : List A). f i ∷ l) (span_cut f d (i + 1) k e (omega arith) lt))

  pub each_parts : (P : A → Type 0) (xs ys : List A) → Each P (xs ++ ys) → Each P xs × Each P ys
  each_parts P [] ys e = (tt, e)
  each_parts P (x ∷ xs) ys e = let w = each_parts P xs ys e.1 in ((e.0, w.0), w.1)

  pub total_ext : (f g : A → ℕ) → ((x : A) → f x ≡ g x) → (xs : List A) → total f xs ≡ total g xs
  unfolding total
  total_ext f g h [] = refl
  total_ext f g h (x ∷ xs) = rw (h x, total_ext f g h xs)

  -- what is 1 for each element sums to the length
  pub total_ones : (xs : List A) → total (λ x. 1) xs ≡ length xs
  unfolding total
  total_ones [] = refl
  total_ones (x ∷ xs) = omega (arith, total_ones xs)
