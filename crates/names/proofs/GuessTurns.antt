-- One turn of the loop that reads a line's controls. Assumes nothing.
use Rattle.std.proofs.Common.{◌≡◌, refl, sym, ◌∙◌, Bool, true, false, cond, List, ℕ, zero, suc, ◌+◌, ◌*◌, ◌%◌, ◌^◌, ◌≤◌, ◌<◌, pow-suc, add-one, arith, get_or}
use Rattle.std.proofs.Math.Nat.{pow-le-pow_right}
use Rattle.digits.specs.Digits.{pack}
use Rattle.digits.proofs.Packs.{pack_zero, pack_suc}
use Rattle.names.specs.Inner.Guesses.{stands, behind_controls, control_in}
use Rattle.names.proofs.Guesses.{controls_in_lt}

pub record Guessing (l : List ℕ) (e weight controls k : ℕ) : Type 0 where
  pub within : k ≤ 6
  pub at : e ≡ behind_controls l k
  pub heavy : weight ≡ 4 ^ k
  pub packed : controls ≡ pack 4 (control_in l) k

behind_le : (l : List ℕ) (k : ℕ) → behind_controls l k ≤ 5 + 5 * k
unfolding behind_controls
behind_le l zero = omega arith
behind_le l (suc k) = go (behind_le l k) (stands l (behind_controls l k) k)
  where
    go : behind_controls l k ≤ 5 + 5 * k → (b : Bool) → cond b (behind_controls l k + 5) (behind_controls l k) ≤ 5 + 5 * suc k
    go h true = omega arith
    go h false = omega arith

four_most : (k : ℕ) → k ≤ 6 → 4 ^ k ≤ 4096
four_most k le = pow-le-pow_right {n = 4} (omega arith) le

pub guess_start : (l : List ℕ) → Guessing l 5 1 0 0
unfolding behind_controls
guess_start l = record { within = omega arith; at = refl; heavy = refl; packed = sym (pack_zero 4 (control_in l)) }

module _ (l : List ℕ) (e weight controls k : ℕ) (g : Guessing l e weight controls k) where
  pub guess_place : e ≤ 100
  guess_place = omega (arith, g.at, behind_le l k, g.within)

  pub guess_weight : weight ≤ 4096
  guess_weight = rw g.heavy (four_most k g.within)

  module _ (lt : k < 6) (c : ℕ) (is : c ≡ cond (stands l e k) (get_or l (e + 4) 0 % 4) 3) where
    digit_is : c ≡ control_in l k
    unfolding control_in
    digit_is = is ∙ rw g.at

    sum_is : controls + c * weight ≡ pack 4 (control_in l) (suc k)
    sum_is = rw (g.packed, digit_is, g.heavy) (sym (pack_suc 4 (control_in l) k))

    pub guess_small : controls + c * weight < 4096
    guess_small = omega (arith, sum_is, controls_in_lt l (suc k), four_most (suc k) (omega arith))

    pub guess_next : (f : ℕ) → f ≡ cond (stands l e k) (e + 5) e → Guessing l f (weight * 4) (controls + c * weight) (k + 1)
    unfolding behind_controls
    guess_next f at =
        rw add-one (record {
          within = omega arith;
          at = at ∙ rw g.at;
          heavy = rw g.heavy (sym (pow-suc 4 k));
          packed = sum_is;
        })
