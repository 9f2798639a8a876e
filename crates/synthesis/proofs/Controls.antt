-- The gate of the procedure: it is a gate on n lines, and it fires on a pattern exactly if every line but its target holds the digit of a. Its
-- controls are made from those that name a (`controls_made`), and these from the digits of a, all at once (`names_more`). Assumes nothing.
use Rattle.std.proofs.Common.{◌≡◌, refl, sym, ap, ◌∙◌, true, cond, ℕ, ◌+◌, ◌-◌, ◌*◌, ◌%◌, ◌^◌, ◌≤◌, ◌<◌, arith, length, get_or}
use Rattle.std.proofs.Common.{set, get_or-set_same, get_or-set_other, below_more, List, eqb, ltb, leb, bit_or, eqb-true, ne_eqb, ltb-true}
use Rattle.std.proofs.Common.{leb-true}
use Rattle.std.proofs.Math.Decide.{ℕ_discrete}
use Rattle.std.proofs.lemmas.Bool.Decides.{nat_tests}
use Rattle.std.proofs.lemmas.Nat.{or_lt}
use Rattle.std.specs.Int.Bits.{or_zero_r}
use Rattle.ranges.specs.Ranges.{every, sum}
use Rattle.ranges.proofs.Tests.{every_below, every_of}
use Rattle.digits.specs.Digits.{digit, pack}
use Rattle.digits.proofs.Digits.{digit_lt, digit_high, digits_equal}
use Rattle.digits.proofs.Bits.{digit_or}
use Rattle.digits.proofs.Packs.{digit_pack, pack_lt, pack_ext, pack_add}
use Rattle.digits.proofs.Sizes.{three_pos}
use Rattle.gates.specs.Gates.{control, holds, fires_on, IsGate}
use Rattle.gates.specs.Inner.Firing.{fires}
use Rattle.gates.specs.Inner.Quads.{quad}
use Rattle.synthesis.specs.Synthesis.{control_for, gate_for}
use Rattle.synthesis.specs.Inner.TableSteps.{full_controls, NamesBelow}
use Rattle.synthesis.proofs.Exchangers.{exchanger_op}

-- ---- a control and the value of its line

equal_holds : (c x : ℕ) → c < 3 → holds c x ≡ true → c ≡ x
unfolding holds
equal_holds c x lt e = grind (arith, nat_tests)

-- ---- the control on a line

module _ (n k a : ℕ) where
  pub control_target : control_for n k a k ≡ 3
  unfolding control_for
  control_target = grind (arith, nat_tests)

  pub control_past : (j : ℕ) → n ≤ j → control_for n k a j ≡ 3
  unfolding control_for
  control_past j le = grind (arith, nat_tests)

  pub control_line : (j : ℕ) → j < n → (j ≡ k → ⊥) → control_for n k a j ≡ digit 3 j a
  unfolding control_for
  control_line j lt ne = grind (arith, nat_tests)

  pub control_lt : (j : ℕ) → control_for n k a j < 4
  unfolding control_for
  control_lt j = grind (arith, nat_tests, digit_lt 3 j a three_pos)

-- ---- the gate

module _ (n k a d : ℕ) where
  pub gate_control : (j : ℕ) → j < 6 → control (gate_for n k a d) j ≡ control_for n k a j
  unfolding gate_for
  gate_control j lt = digit_pack 4 (control_for n k a) 6 (λ i l. control_lt n k a i) j lt

  module _ (lines : n ≤ 6) (line : k < n) where
    pub is_gate : IsGate n (gate_for n k a d)
    unfolding gate_for
    is_gate =
        record {
          op_low = let o = exchanger_op (digit 3 k a) d in omega arith;
          op_high = (exchanger_op (digit 3 k a) d).1;
          on_line = line;
          own = gate_control k (omega arith) ∙ control_target n k a;
          beyond = λ j le lt. gate_control j lt ∙ control_past n k a j le;
          packed = pack_lt 4 (control_for n k a) 6 (λ j lt. control_lt n k a j);
        }

    -- ---- when it fires

    pub gate_fires : (p : ℕ) → ((j : ℕ) → j < n → (j ≡ k → ⊥) → digit 3 j a ≡ digit 3 j p) → fires (gate_for n k a d) p ≡ true
    unfolding fires_on holds control_for
    gate_fires p h = every_of _ 6 (λ j lt. let e = gate_control j lt in let same = h j in grind (arith, nat_tests))

    pub fires_gate : (p : ℕ) → fires (gate_for n k a d) p ≡ true → (j : ℕ) → j < n → (j ≡ k → ⊥) → digit 3 j a ≡ digit 3 j p
    unfolding fires_on
    fires_gate p e j lt ne =
        let c : control (gate_for n k a d) j ≡ digit 3 j a = gate_control j (omega arith) ∙ control_line n k a j lt ne in
        equal_holds (digit 3 j a) (digit 3 j p) (digit_lt 3 j a three_pos) (rw c at (every_below _ 6 e j (omega arith)))

-- ---- the controls that name a pattern

abbrev named : ℕ → ℕ → ℕ → ℕ
named n a j = cond (leb n j) 3 (digit 3 j a)

named_lt : (n a j : ℕ) → named n a j < 4
named_lt n a j = grind (arith, nat_tests, digit_lt 3 j a three_pos)

-- both bits of line k
abbrev both : ℕ → ℕ
both k = 3 * 2 ^ (2 * k) % 0x1_0000

both_lt : (k : ℕ) → k < 6 → both k < 4 ^ 6
unfolding every
both_lt k lt = ltb-true (both k) 0x1000 (every_below (λ k. ltb (both k) 0x1000) 6 refl k lt)

both_there : (k : ℕ) → k < 6 → digit 4 k (both k) ≡ 3
unfolding every digit
both_there k lt = eqb-true (digit 4 k (both k)) 3 (every_below (λ k. eqb (digit 4 k (both k)) 3) 6 refl k lt)

both_else : (k j : ℕ) → k < 6 → j < 6 → (j ≡ k → ⊥) → digit 4 j (both k) ≡ 0
unfolding every digit
both_else k j lk lj ne =
    eqb-true (digit 4 j (both k)) 0
    (rw (ne_eqb j k ne) at
    (every_below (λ j. cond (eqb j k) true (eqb (digit 4 j (both k)) 0)) 6
    (every_below (λ k. every (λ j. cond (eqb j k) true (eqb (digit 4 j (both k)) 0)) 0 6) 6 refl k lk) j lj))

or_three : (x : ℕ) → x < 4 → bit_or x 3 ≡ 3
unfolding every
or_three x lt = eqb-true (bit_or x 3) 3 (every_below (λ x. eqb (bit_or x 3) 3) 4 refl x lt)

control_else : (n k a j : ℕ) → (j ≡ k → ⊥) → control_for n k a j ≡ named n a j
unfolding control_for
control_else n k a j ne = grind (arith, nat_tests)

module _ (n a : ℕ) where
  pub full_lt : full_controls n a < 4 ^ 6
  unfolding full_controls
  full_lt = pack_lt 4 (named n a) 6 (λ j lt. named_lt n a j)

  full_digit : (j : ℕ) → j < 6 → digit 4 j (full_controls n a) ≡ named n a j
  unfolding full_controls
  full_digit j lt = digit_pack 4 (named n a) 6 (λ i l. named_lt n a i) j lt

  pub full_past : (j : ℕ) → n ≤ j → j < 6 → digit 4 j (full_controls n a) ≡ 3
  full_past j le lt = let e = full_digit j lt in grind (arith, nat_tests)

  module _ (lines : n ≤ 6) where
    pub full_line : (j : ℕ) → j < n → digit 4 j (full_controls n a) ≡ digit 3 j a
    full_line j lt = let e = full_digit j (omega arith) in grind (arith, nat_tests)

    -- those of the gate for line k: both bits of line k are set
    pub controls_made : (k : ℕ) → k < n → bit_or (full_controls n a) (both k) ≡ pack 4 (control_for n k a) 6
    controls_made k line =
        digits_equal 4 6 (bit_or (full_controls n a) (both k)) (pack 4 (control_for n k a) 6) (omega arith) (or_lt 12 (full_controls n a) (both k) full_lt (both_lt k (omega arith)))
        (pack_lt 4 (control_for n k a) 6 (λ j lt. control_lt n k a j))
        (λ j lt.
        digit_or 2 j (full_controls n a) (both k) ∙ content j lt (ℕ_discrete j k) ∙ sym (digit_pack 4 (control_for n k a) 6 (λ i l. control_lt n k a i) j lt))
      where
        content : (j : ℕ) → j < 6 → Dec (j ≡ k) → bit_or (digit 4 j (full_controls n a)) (digit 4 j (both k)) ≡ control_for n k a j
        content j lt (yes e) = rw (e, control_target n k a, both_there k (omega arith)) (or_three (digit 4 k (full_controls n a)) (digit_lt 4 k (full_controls n a) (omega arith)))
        content j lt (no ne) = rw (both_else k j (omega arith) lt ne, or_zero_r) (full_digit j lt ∙ sym (control_else n k a j ne))

-- two patterns with the same digit on a line
pub full_same : (n a b j : ℕ) → j < 6 → digit 3 j a ≡ digit 3 j b → digit 4 j (full_controls n a) ≡ digit 4 j (full_controls n b)
full_same n a b j lt e = full_digit n a j lt ∙ ap (cond (leb n j) 3) e ∙ sym (full_digit n b j lt)

-- ---- as the code makes them: the digits of a, and 3 added from line n up

none_from : ℕ → ℕ → ℕ
none_from n j = cond (leb n j) 3 0

abbrev shift : ℕ → ℕ
shift n = 1 * 2 ^ (2 * n) % 0x1_0000

none_packed : (n : ℕ) → n ≤ 6 → (pack 4 (none_from n) 6 ≡ 0x1000 - shift n) × (shift n ≤ 0x1000)
unfolding every pack sum none_from
none_packed n lines = (
  eqb-true (pack 4 (none_from n) 6) (0x1000 - shift n) (every_below (λ n. eqb (pack 4 (none_from n) 6) (0x1000 - shift n)) 7 refl n (omega arith)),
  leb-true (shift n) 0x1000 (every_below (λ n. leb (shift n) 0x1000) 7 refl n (omega arith)),
)

pub shift_fits : (n : ℕ) → n ≤ 6 → shift n ≤ 0x1000
shift_fits n lines = (none_packed n lines).1

pub full_made : (n a q : ℕ) → n ≤ 6 → a < 3 ^ n → q ≡ quad a → q + (0x1000 - shift n) ≡ full_controls n a
unfolding quad full_controls none_from
full_made n a q lines below eq =
    omega (arith, eq, (none_packed n lines).0, pack_add 4 (λ j. digit 3 j a) (none_from n) 6) ∙ pack_ext 4 (λ j. digit 3 j a + none_from n j) (named n a) 6 (λ j lt. same j)
  where
    same : (j : ℕ) → digit 3 j a + none_from n j ≡ named n a j
    same j = let high = digit_high 3 n j a three_pos below in grind (arith, nat_tests)

-- one pattern more has its controls
pub names_more : (n p q : ℕ) (full : List ℕ) → NamesBelow n p full → p < 3 ^ n → p < length full → q ≡ quad p → NamesBelow n (p + 1) (set full p (q + (0x1000 - shift n)))
names_more n p q full w below fits eq =
    record {
      lines = w.lines;
      each =
          below_more (λ a. get_or (set full p (q + (0x1000 - shift n))) a 0 ≡ full_controls n a) p
          (λ a lt. get_or-set_other full p a (q + (0x1000 - shift n)) 0 (λ e. omega arith) ∙ w.each a lt)
          (get_or-set_same full p (q + (0x1000 - shift n)) 0 fits ∙ full_made n p q w.lines below eq);
    }
