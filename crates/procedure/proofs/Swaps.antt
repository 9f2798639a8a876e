-- Two patterns that change places: the exchange takes itself back, keeps below any bound, and is what a gate of the procedure does (`gate_exchanges`).
-- Assumes nothing.
use mathlib.Core.Path.{◌≡◌, refl, ap, ◌∙◌}
use Prim.Native.Nat.{ℕ, ◌^◌, ◌<◌}
use native.Mathlib.Decide.{ℕ_discrete}
use borrow.Author.Tests.{eq-eqb, ne_eqb}
use Rattle.digits.specs.Digits.{put}
use Rattle.procedure.specs.Inner.Exchanges.{exchanged}
use Rattle.procedure.proofs.Families.{DigitChange, Exchanges, back_again}

module _ (a b : ℕ) where
  pub at_one : exchanged a b a ≡ b
  unfolding exchanged
  at_one = rw (eq-eqb a a refl)

  pub at_other : exchanged a b b ≡ a
  unfolding exchanged
  at_other = go (ℕ_discrete b a)
    where
      go : Dec (b ≡ a) → exchanged a b b ≡ a
      go (yes e) = ap (exchanged a b) e ∙ at_one ∙ e
      go (no ne) = rw (ne_eqb b a ne, eq-eqb b b refl)

  pub at_none : (p : ℕ) → (p ≡ a → ⊥) → (p ≡ b → ⊥) → exchanged a b p ≡ p
  unfolding exchanged
  at_none p na nb = rw (ne_eqb p a na, ne_eqb p b nb)

  -- what holds of the two, and of every other pattern, holds of each
  by_pattern : (P : ℕ → ℕ → Type 0) → P a b → P b a → ((p : ℕ) → (p ≡ a → ⊥) → (p ≡ b → ⊥) → P p p) → (p : ℕ) → P p (exchanged a b p)
  by_pattern P one other none p = go (ℕ_discrete p a) (ℕ_discrete p b)
    where
      go : Dec (p ≡ a) → Dec (p ≡ b) → P p (exchanged a b p)
      go (yes e) f = rw (e, at_one) one
      go (no na) (yes e) = rw (e, at_other) other
      go (no na) (no nb) = rw (at_none p na nb) (none p na nb)

  pub exchanged_twice : (p : ℕ) → exchanged a b (exchanged a b p) ≡ p
  exchanged_twice = by_pattern (λ p q. exchanged a b q ≡ p) at_other at_one at_none

  pub exchanged_lt : (m : ℕ) → a < m → b < m → (p : ℕ) → p < m → exchanged a b p < m
  exchanged_lt m la lb = by_pattern (λ p q. p < m → q < m) (λ l. lb) (λ l. la) (λ p na nb l. l)

-- a gate that was asked for exchanges two patterns
pub gate_exchanges : (r : ℕ) {G : Type 0} (apply : G → ℕ → ℕ) (make : ℕ → ℕ → ℕ → ℕ → G) (n : ℕ) → Exchanges r apply make n → (k a d : ℕ) → DigitChange r n k a d
    → (p : ℕ) → p < r ^ n → apply (make n k a d) p ≡ exchanged a (put r k a d) p
gate_exchanges r apply make n fam k a d w =
    by_pattern a (put r k a d) (λ p q. p < r ^ n → apply (make n k a d) p ≡ q) (λ l. fam.there k a d w) (λ l. back_again r apply make n fam k a d w)
    (λ p na nb l. fam.others k a d w p l na nb)
