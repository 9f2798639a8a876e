-- Which byte of a text is wrong, and what the numbers before an offset are one byte later. Assumes nothing.
use Rattle.std.proofs.Common.{◌≡◌, refl, true, false, List, [], ◌∷◌, ◌++◌, ℕ, suc, ◌≤◌, ◌<◌, get_or, lt-ltb, le-ltb}
use Rattle.serials.specs.SerialTexts.{is_digit, is_mark, with_digit, follows, byte_before, number_to, number_start, numbers_to, can_stand, wrong_byte, wrong_place}
use Rattle.serials.proofs.SerialTexts.{digit_unmarked, mark_no_digit}

module _ (t : List ℕ) (i : ℕ) where
  abbrev b : ℕ
  b = get_or t i 0

  -- ---- one byte later

  pub before_next : byte_before t (suc i) ≡ b
  unfolding byte_before
  before_next = refl

  module _ (d : is_digit b ≡ true) where
    pub number_digit : number_to t (suc i) ≡ with_digit (number_to t i) b
    unfolding number_to
    number_digit = rw d

    pub start_digit : number_start t (suc i) ≡ number_start t i
    unfolding number_start
    start_digit = rw d

    pub numbers_digit : numbers_to t (suc i) ≡ numbers_to t i
    unfolding numbers_to
    numbers_digit = rw (digit_unmarked b d)

  module _ (m : is_mark b ≡ true) where
    pub number_mark : number_to t (suc i) ≡ 0
    unfolding number_to
    number_mark = rw (mark_no_digit b m)

    pub start_mark : number_start t (suc i) ≡ suc i
    unfolding number_start
    start_mark = rw (mark_no_digit b m)

    pub numbers_mark : numbers_to t (suc i) ≡ numbers_to t i ++ (number_to t i ∷ [])
    unfolding numbers_to
    numbers_mark = rw m

  -- ---- byte i

  pub stands : i < 65535 → follows (byte_before t i) (number_to t i) b ≡ true → can_stand t i ≡ true
  unfolding can_stand
  stands early can = rw (lt-ltb i 65535 early, can)

  -- it cannot stand there: its place is i
  pub wrong_stray : can_stand t i ≡ false → (wrong_byte t i ≡ true) × (wrong_place t i ≡ i)
  unfolding wrong_byte wrong_place
  wrong_stray e = (rw e, rw e)

  pub wrong_late : 65535 ≤ i → (wrong_byte t i ≡ true) × (wrong_place t i ≡ i)
  wrong_late le = wrong_stray (unfold can_stand in rw (le-ltb i 65535 le))

  module _ (can : can_stand t i ≡ true) where
    -- it shows a number that is too large: its place is that number's first byte
    pub wrong_large : 65535 < number_to t (suc i) → (wrong_byte t i ≡ true) × (wrong_place t i ≡ number_start t i)
    unfolding wrong_byte wrong_place
    wrong_large lt = (rw (can, lt-ltb 65535 (number_to t (suc i)) lt), rw can)

    pub right : number_to t (suc i) ≤ 65535 → wrong_byte t i ≡ false
    unfolding wrong_byte
    right le = rw (can, le-ltb 65535 (number_to t (suc i)) le)
