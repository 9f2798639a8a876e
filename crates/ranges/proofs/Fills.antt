-- A loop that stores f k at each index k of a list, from the start on: `Filling` is its invariant. Assumes nothing.
use mathlib.Core.Path.{◌≡◌, refl, sym, ap, ◌∙◌}
use mathlib.Core.List.{List, [], ◌∷◌, ◌++◌, map, append-nil}
use Prim.Native.Nat.{ℕ, suc, ◌+◌, ◌≤◌, ◌<◌}
use native.Mathlib.Nat.{zero-add}
use native.Mathlib.Numerals.{add-one}
use native.Mathlib.Omega.{arith}
use lib.ListN.{length, get_or, set, drop, length-append, length-drop, length-map, drop_of_length-le}
use lib.Seq.{drop-cons, set_at, get_or_at, ext_get_or, append_snoc}
use Rattle.ranges.specs.Ranges.{span}
use Rattle.ranges.proofs.Spans.{length_span, span_at, span_snoc}
use Rattle.ranges.proofs.Lists.{map_at}

module _ {A : Type 0} (f : ℕ → A) where
  unfoldable pub filled : ℕ → List A → List A
  filled j l = span f 0 j ++ drop j l

  -- l is l₀ with f k stored at each k below j
  pub record Filling (l₀ l : List A) (j : ℕ) : Type 0 where
    pub within : j ≤ length l₀
    pub is : l ≡ filled j l₀

  pub filling_start : (l : List A) → Filling l l 0
  unfolding filled span
  filling_start l = record { within = omega arith; is = refl }

  module _ (l₀ l : List A) (j : ℕ) (now : Filling l₀ l j) where
    pub filling_length : length l ≡ length l₀
    unfolding filled
    filling_length = ap length now.is ∙ rw (length-append, length_span, length-drop) (omega (arith, now.within))

    -- what stands at j is still what stood there
    pub filling_read : (d : A) → j < length l₀ → get_or l j d ≡ get_or l₀ j d
    unfolding filled
    filling_read d lt = rw (now.is, drop-cons l₀ j d lt) (get_or_at (span f 0 j) (get_or l₀ j d) (drop (suc j) l₀) d j (length_span f 0 j))

    -- one turn: f j is stored at j
    pub filling_next : (d x : A) → x ≡ f j → j < length l₀ → Filling l₀ (set l j x) (j + 1)
    unfolding filled
    filling_next d x e lt =
        let s : span f 0 (suc j) ≡ span f 0 j ++ (f j ∷ []) = rw (zero-add j) at (span_snoc f 0 j) in
        record {
          within = omega arith;
          is =
              rw (now.is, e, add-one, s, drop-cons l₀ j d lt)
              (set_at (span f 0 j) (get_or l₀ j d) (drop (suc j) l₀) (f j) j (length_span f 0 j) ∙ sym (append_snoc (span f 0 j) (f j) (drop (suc j) l₀)));
        }

    -- at the end all of it is f
    pub filling_end : length l₀ ≤ j → l ≡ span f 0 (length l₀)
    unfolding filled
    filling_end le =
        let e : j ≡ length l₀ = omega (arith, now.within) in
        now.is ∙ rw (e, drop_of_length-le l₀ {i = length l₀} (omega arith), append-nil)

-- each element of a list replaced by its image is the list mapped
pub span_map : {A B : Type 0} (g : A → B) (l : List A) (d : A) → span (λ k. g (get_or l k d)) 0 (length l) ≡ map g l
span_map {A} {B} g l d =
    ext_get_or (g d) (span (λ k. g (get_or l k d)) 0 (length l)) (map g l) (length_span (λ k. g (get_or l k d)) 0 (length l) ∙ sym (length-map l g))
    (λ i lt.
    let lt' : i < length l = rw (length_span (λ k. g (get_or l k d)) 0 (length l)) at lt in
    (rw (zero-add i) at (span_at (λ k. g (get_or l k d)) 0 (length l) i (g d) lt')) ∙ sym (map_at g l i d (g d) lt'))
