-- The laws of `found_at`, and what the library's `position` finds. Assumes nothing.
use Rattle.std.proofs.Common.{suc, ◌≡◌, refl, ℕ, ◌+◌, ◌≤◌, ◌<◌, Bool, true, false, cond, not, ltb, List, [], ◌∷◌, length, get_or, Some, None, position, arith}
use Rattle.std.specs.List.{position_or_len}
use borrow.Author.Tests.{ltb-true, ltb-false, lt-ltb, le-ltb}
use Rattle.ranges.specs.Ranges.{first}
use Rattle.ranges.specs.Inner.Places.{found_at}
use Rattle.ranges.proofs.Searches.{first_suc}

module _ (m r : ℕ) where
  -- what it says of the place
  pub found_some : (k : ℕ) → Some k ≡ found_at m r → (k ≡ r) × (r < m)
  unfolding found_at
  found_some k = go (ltb r m) refl
    where
      go : (b : Bool) → ltb r m ≡ b → Some k ≡ cond b (Some r) None → (k ≡ r) × (r < m)
      go true e q = (cc, ltb-true r m e)
      go false e q = absurd cc

  pub found_none : None ≡ found_at m r → m ≤ r
  unfolding found_at
  found_none = go (ltb r m) refl
    where
      go : (b : Bool) → ltb r m ≡ b → None ≡ cond b (Some r) None → m ≤ r
      go true e q = absurd cc
      go false e q = ltb-false r m e

  -- and how it is made
  pub found_here : (k : ℕ) → k ≡ r → k < m → Some k ≡ found_at m r
  unfolding found_at
  found_here k e lt = rw (← e, lt-ltb k m lt)

  pub found_nowhere : m ≤ r → None ≡ found_at m r
  unfolding found_at
  found_nowhere le = rw (le-ltb r m le)

-- `position` finds the first place whose element passes
module _ {A : Type 0} (p : A → Bool) (d : A) where
  located_step : (b : Bool) (x : A) (xs : List A) → first (λ i. p (get_or (x ∷ xs) i d)) 1 (length xs) ≡ suc (first (λ i. p (get_or xs i d)) 0 (length xs))
      → position_or_len p xs ≡ first (λ i. p (get_or xs i d)) 0 (length xs)
      → cond (not b) (1 + position_or_len p xs) 0 ≡ cond b 0 (first (λ i. p (get_or (x ∷ xs) i d)) 1 (length xs))
  located_step true x xs e f = refl
  located_step false x xs e f = rw (e, f) (omega arith)

  pub located : (xs : List A) → position_or_len p xs ≡ first (λ i. p (get_or xs i d)) 0 (length xs)
  unfolding first
  located [] = refl
  located (x ∷ xs) = located_step (p x) x xs (first_suc (λ i. p (get_or (x ∷ xs) i d)) (λ i. p (get_or xs i d)) (λ k. refl) 0 (length xs)) (located xs)

  pub position_first : (xs : List A) → position p xs ≡ found_at (length xs) (first (λ i. p (get_or xs i d)) 0 (length xs))
  unfolding found_at
  position_first xs = rw (located xs)
