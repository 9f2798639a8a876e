-- The equations of a reader's definitions, as its code meets them: one byte, case by case; a number kept; a part, one byte at a time; parts one after the
-- other. Assumes nothing.
use Rattle.std.proofs.Common.{◌≡◌, refl, ◌∙◌, Bool, true, false, cond, List, [], ◌∷◌, ◌++◌, ℕ, ◌+◌, ◌≤◌, ◌<◌, add-one, arith, ltb, length, get_or, drop, set, drop_of_length-le, drop-cons, length-set, ltb-true, lt-ltb, le-ltb, eq-eqb, ne_eqb}
use Rattle.std.proofs.Math.Seq.{set_out}
use Rattle.ranges.proofs.Bools.{and_left, and_right}
use Rattle.texts.specs.Texts.{joined}
use Rattle.serials.specs.declared.Scan.{Scan}
use Rattle.serials.specs.declared.Serial.{Serial}
use Rattle.serials.specs.SerialTexts.{is_digit, is_mark, with_digit}
use Rattle.serials.specs.Serials.{serial, stopped, comes_next, digit_taken, mark_taken, stepped, kept, fed, fed_all}
use Rattle.serials.proofs.SerialTexts.{follows_digit}

-- ---- one byte

module _ (s : Scan) (b : ℕ) where
  pub next_early : comes_next s b ≡ true → s.at < 65535
  unfolding comes_next
  next_early can = ltb-true s.at 65535 (and_left (ltb s.at 65535) _ can)

  pub next_digit : comes_next s b ≡ true → is_mark b ≡ false → is_digit b ≡ true
  unfolding comes_next
  next_digit can m = follows_digit s.last s.value b (and_right (ltb s.at 65535) _ can) m

  pub step_over : (s.over ≡ 0 → ⊥) → stepped s b ≡ s
  unfolding stepped
  step_over ne = rw (ne_eqb s.over 0 ne)

  module _ (on : s.over ≡ 0) where
    pub step_stray : comes_next s b ≡ false → stepped s b ≡ stopped s 14 s.at
    unfolding stepped
    step_stray cannot = rw (eq-eqb s.over 0 on, cannot)

    module _ (can : comes_next s b ≡ true) where
      pub step_mark : is_mark b ≡ true → stepped s b ≡ mark_taken s b
      unfolding stepped
      step_mark m = rw (eq-eqb s.over 0 on, can, m)

      module _ (m : is_mark b ≡ false) where
        pub step_large : 65535 < with_digit s.value b → stepped s b ≡ stopped s 14 s.first
        unfolding stepped
        step_large lt = rw (eq-eqb s.over 0 on, can, m, lt-ltb 65535 (with_digit s.value b) lt)

        pub step_digit : with_digit s.value b ≤ 65535 → stepped s b ≡ digit_taken s b (with_digit s.value b)
        unfolding stepped
        step_digit le = rw (eq-eqb s.over 0 on, can, m, le-ltb 65535 (with_digit s.value b) le)

-- ---- a number that was counted

module _ (s next : Scan) (es : List ℕ) where
  pub kept_none : next.count ≤ s.count → kept s next es ≡ es
  unfolding kept
  kept_none le = rw (le-ltb s.count next.count le)

  pub kept_one : s.count < next.count → kept s next es ≡ set es s.count s.value
  unfolding kept
  kept_one lt = rw (lt-ltb s.count next.count lt)

  pub kept_out : s.count < next.count → length es ≤ s.count → kept s next es ≡ es
  kept_out lt le = kept_one lt ∙ set_out es s.count s.value le

  pub kept_length : length (kept s next es) ≡ length es
  unfolding kept
  kept_length = go (ltb s.count next.count)
    where
      go : (b : Bool) → length (cond b (set es s.count s.value) es) ≡ length es
      go true = length-set es s.count s.value
      go false = refl

-- ---- a part, one byte at a time

-- the reader after one byte
abbrev pub after_byte : Serial → ℕ → Serial
after_byte r b = serial (stepped r.scan b) (kept r.scan (stepped r.scan b) r.entries)

module _ (r : Serial) (bytes : List ℕ) (i : ℕ) where
  pub fed_more : i < length bytes → fed (after_byte r (get_or bytes i 0)) (drop (i + 1) bytes) ≡ fed r (drop i bytes)
  fed_more lt = rw (add-one, drop-cons bytes i 0 lt) (unfold fed in refl)

  pub fed_ends : length bytes ≤ i → fed r (drop i bytes) ≡ r
  fed_ends le = rw (drop_of_length-le bytes le) (unfold fed in refl)

-- a reader that is over stays as it is
pub fed_over : (r : Serial) (bytes : List ℕ) → (r.scan.over ≡ 0 → ⊥) → fed r bytes ≡ r
unfolding fed
fed_over r [] ne = refl
fed_over r (b ∷ bs) ne = rw (step_over r.scan b ne, kept_none r.scan r.scan r.entries (omega arith)) (fed_over r bs ne)

-- ---- parts

pub fed_append : (r : Serial) (xs ys : List ℕ) → fed (fed r xs) ys ≡ fed r (xs ++ ys)
unfolding fed
fed_append r [] ys = refl
fed_append r (b ∷ bs) ys = fed_append (after_byte r b) bs ys

-- parts one after the other are one part
pub fed_joined : (r : Serial) (parts : List (List ℕ)) → fed_all r parts ≡ fed r (joined parts)
unfolding fed_all joined
fed_joined r [] = unfold fed in refl
fed_joined r (part ∷ parts) = fed_joined (fed r part) parts ∙ fed_append r part (joined parts)
