-- What is asked of a family of gates, so that the procedure works with it: the gate for digit k of a and the value d exchanges a with `put r k a d`, and
-- changes no other pattern. Assumes nothing.
use mathlib.Core.Path.{◌≡◌, sym, ap, ◌∙◌}
use Prim.Native.Nat.{ℕ, ◌^◌, ◌<◌}
use Rattle.digits.specs.Digits.{digit, put}

-- digit k of the pattern a is to become d, which it is not
pub record DigitChange (r n k a d : ℕ) : Type 0 where
  pub line : k < n
  pub pattern : a < r ^ n
  pub value : d < r
  pub differs : digit r k a ≡ d → ⊥

module _ (r : ℕ) {G : Type 0} (apply : G → ℕ → ℕ) (make : ℕ → ℕ → ℕ → ℕ → G) (n : ℕ) where
  pub record Exchanges : Type 0 where
    pub twice : (k a d : ℕ) → DigitChange r n k a d → (p : ℕ) → p < r ^ n → apply (make n k a d) (apply (make n k a d) p) ≡ p
    pub keeps : (k a d : ℕ) → DigitChange r n k a d → (p : ℕ) → p < r ^ n → apply (make n k a d) p < r ^ n
    pub there : (k a d : ℕ) → DigitChange r n k a d → apply (make n k a d) a ≡ put r k a d
    pub others : (k a d : ℕ) → DigitChange r n k a d → (p : ℕ) → p < r ^ n → (p ≡ a → ⊥) → (p ≡ put r k a d → ⊥) → apply (make n k a d) p ≡ p

  -- and back
  pub back_again : Exchanges → (k a d : ℕ) → DigitChange r n k a d → apply (make n k a d) (put r k a d) ≡ a
  back_again fam k a d w = ap (apply (make n k a d)) (sym (fam.there k a d w)) ∙ fam.twice k a d w a w.pattern

  -- g is a gate that was asked for
  pub record Made (g : G) : Type 0 where
    pub k : ℕ
    pub a : ℕ
    pub d : ℕ
    pub change : DigitChange r n k a d
    pub is : g ≡ make n k a d
