-- The laws of `Each`, `total` and `through`. Assumes nothing.
use mathlib.Core.Path.{◌≡◌, refl}
use mathlib.Core.List.{List, [], ◌∷◌, ◌++◌, map, reverse, reverse-cons}
use Prim.Native.Nat.{ℕ, zero, suc, ◌+◌, ◌*◌, ◌≤◌, ◌<◌}
use native.Mathlib.Nat.{zero-add, add_assoc, mul-suc}
use native.Mathlib.Omega.{arith}
use lib.ListN.{length, get_or}
use Rattle.ranges.specs.Lists.{Each, total, through}

module _ {A : Type 0} where
  pub each_append : (P : A → Type 0) (xs ys : List A) → Each P xs → Each P ys → Each P (xs ++ ys)
  each_append P [] ys p q = q
  each_append P (x ∷ xs) ys p q = (p.0, each_append P xs ys p.1 q)

  pub each_map : {B : Type 0} (P : A → Type 0) (Q : B → Type 0) (g : A → B) → ((x : A) → P x → Q (g x)) → (xs : List A) → Each P xs → Each Q (map g xs)
  each_map P Q g h [] e = tt
  each_map P Q g h (x ∷ xs) e = (h x e.0, each_map P Q g h xs e.1)

  pub each_imp : (P Q : A → Type 0) → ((x : A) → P x → Q x) → (xs : List A) → Each P xs → Each Q xs
  each_imp P Q h [] e = tt
  each_imp P Q h (x ∷ xs) e = (h x e.0, each_imp P Q h xs e.1)

  pub each_at : (P : A → Type 0) (xs : List A) (d : A) → Each P xs → (k : ℕ) → k < length xs → P (get_or xs k d)
  each_at P [] d e k lt = absurd (omega arith)
  each_at P (x ∷ xs) d e zero lt = e.0
  each_at P (x ∷ xs) d e (suc k) lt = each_at P xs d e.1 k (omega arith)

  pub each_reverse : (P : A → Type 0) (xs : List A) → Each P xs → Each P (reverse xs)
  each_reverse P [] e = tt
  each_reverse P (x ∷ xs) e = rw (reverse-cons x xs) (each_append P (reverse xs) (x ∷ []) (each_reverse P xs e.1) (e.0, tt))

  pub total_append : (f : A → ℕ) (xs ys : List A) → total f (xs ++ ys) ≡ total f xs + total f ys
  unfolding total
  total_append f [] ys = rw zero-add
  total_append f (x ∷ xs) ys = rw (total_append f xs ys, add_assoc)

  -- what is at most c for each element sums to at most c times the length
  pub total_le : (f : A → ℕ) (c : ℕ) (xs : List A) → Each (λ x. f x ≤ c) xs → total f xs ≤ c * length xs
  unfolding total
  total_le f c [] e = omega arith
  total_le f c (x ∷ xs) e = omega (arith, e.0, total_le f c xs e.1, mul-suc c (length xs))

  pub through_nil : (f : A → ℕ → ℕ) (p : ℕ) → through f [] p ≡ p
  unfolding through
  through_nil f p = refl

  pub through_cons : (f : A → ℕ → ℕ) (x : A) (xs : List A) (p : ℕ) → through f (x ∷ xs) p ≡ through f xs (f x p)
  unfolding through
  through_cons f x xs p = refl

  pub through_append : (f : A → ℕ → ℕ) (xs ys : List A) (p : ℕ) → through f (xs ++ ys) p ≡ through f ys (through f xs p)
  unfolding through
  through_append f [] ys p = refl
  through_append f (x ∷ xs) ys p = through_append f xs ys (f x p)

  -- element k of a list, mapped
  pub map_at : {B : Type 0} (g : A → B) (xs : List A) (k : ℕ) (d : A) (e : B) → k < length xs → get_or (map g xs) k e ≡ g (get_or xs k d)
  map_at g [] k d e lt = absurd (omega arith)
  map_at g (x ∷ xs) zero d e lt = refl
  map_at g (x ∷ xs) (suc k) d e lt = map_at g xs k d e (omega arith)
