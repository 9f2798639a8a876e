-- Bytes of a text: what a digit is, and which byte can follow which. Assumes nothing.
use Rattle.std.proofs.Common.{◌≡◌, ⊎_elim, Bool, true, false, cond, not, ◌&&◌, ◌||◌, ℕ, ◌≤◌, arith, eqb, leb, leb-true, ne_eqb}
use Rattle.ranges.proofs.Bools.{and_left, and_right, decide, clash}
use Rattle.serials.specs.SerialTexts.{is_digit, is_mark, follows}

module _ (b : ℕ) (e : is_digit b ≡ true) where
  pub digit_low : 48 ≤ b
  unfolding is_digit
  digit_low = leb-true 48 b (and_left (leb 48 b) _ e)

  pub digit_high : b ≤ 57
  unfolding is_digit
  digit_high = leb-true b 57 (and_right (leb 48 b) _ e)

  pub digit_unmarked : is_mark b ≡ false
  unfolding is_mark
  digit_unmarked = rw (ne_eqb b 32 (λ q. omega (arith, digit_low)), ne_eqb b 10 (λ q. omega (arith, digit_low)))

pub mark_no_digit : (b : ℕ) → is_mark b ≡ true → is_digit b ≡ false
mark_no_digit b m = ⊎_elim (λ (d : is_digit b ≡ true). clash (is_mark b) m (digit_unmarked b d)) (λ (d : is_digit b ≡ false). d) (decide (is_digit b))

-- what can follow and is no mark is a digit
pub follows_digit : (a x b : ℕ) → follows a x b ≡ true → is_mark b ≡ false → is_digit b ≡ true
unfolding follows
follows_digit a x b e m = go (is_digit a) e
  where
    go : (c : Bool) → cond c (is_mark b || (is_digit b && not (eqb x 0))) (is_digit b) ≡ true → is_digit b ≡ true
    go true h = and_left (is_digit b) (not (eqb x 0)) (rw m at h)
    go false h = h
