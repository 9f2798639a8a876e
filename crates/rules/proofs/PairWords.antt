-- A record as one number, and the gate that it writes down: what the code reads off the number is the gate's. Assumes nothing.
use mathlib.Core.Path.{◌≡◌, refl, sym, ap, ◌∙◌}
use mathlib.Core.Logic.{⊎_elim}
use mathlib.Core.Bool.{Bool, true, false, cond, not, beq}
use Prim.Native.Nat.{ℕ, ◌+◌, ◌/◌, ◌%◌, ◌^◌, ◌<◌, ◌≤◌}
use native.Mathlib.Omega.{arith}
use lib.Dec.{eqb}
use borrow.Author.Tests.{eq-eqb, ne_eqb}
use Rattle.ranges.specs.Ranges.{every}
use Rattle.ranges.proofs.Tests.{every_below, every_of}
use Rattle.ranges.proofs.Bools.{decide, clash}
use Rattle.ranges.proofs.Triples.{beq_same}
use Rattle.ranges.proofs.Sums.{sum_ext}
use Rattle.ranges.proofs.Counts.{by_place}
use Rattle.digits.specs.Digits.{digit}
use Rattle.digits.proofs.Digits.{digit_high}
use Rattle.digits.proofs.Packs.{pack_ext, pack_lt}
use Rattle.gates.specs.Gates.{control}
use Rattle.gates.specs.Inner.Words.{byte, gate_of, LowControls, GateWord, control_marks, other_marks}
use Rattle.gates.proofs.Bytes.{byte_high, operator_word}
use Rattle.gates.proofs.Marks.{control_mark, marks_counted, control_word_lem}
use Rattle.rules.specs.Rules.{same_lines, differ_at, differences}
use Rattle.rules.specs.Inner.NamedRules.{rule_for, rule_by}
use Rattle.rules.proofs.FittingPairs.{rule_lines}

-- ---- the operator, and a control

pub operator_lt : (w : ℕ) → GateWord w → w % 256 < 6
operator_lt w ok = omega (arith, ok.op_high)

pub packed : (w : ℕ) → GateWord w → (gate_of w).controls < 4 ^ 6
unfolding gate_of
packed w ok = pack_lt 4 (λ k. byte (2 + k) w) 6 ok.lines.each

pub control_in_lem : (w t : ℕ) → GateWord w → t ≤ 6 → digit 256 t (w / 0x1_0000) ≡ control (gate_of w) t
control_in_lem w t ok le =
    by_place (digit 256 t (w / 0x1_0000) ≡ control (gate_of w) t) 6 t (λ l. byte_high t w ∙ sym (control_word_lem w ok.lines t l))
    (λ l.
    let small = ok.small in
    digit_high 256 6 t (w / 0x1_0000) (omega arith) (omega arith) l ∙ sym (digit_high 4 6 t (gate_of w).controls (omega arith) (packed w ok) l))

-- ---- the controls of two numbers, all lines at once

module _ (g h : ℕ) (low-g : LowControls g) (low-h : LowControls h) where
  both_free : ℕ → Bool
  both_free k = beq (eqb (control (gate_of g) k) 3) (eqb (control (gate_of h) k) 3)

  marks_equal : every both_free 0 6 ≡ true → control_marks g ≡ control_marks h
  unfolding control_marks both_free
  marks_equal e =
      pack_ext 256 _ _ 6
      (λ k l. ap (λ (b : Bool). cond b 0 1) (rw (control_word_lem g low-g k l, control_word_lem h low-h k l) at (beq_same (eqb (control (gate_of g) k) 3) (eqb (control (gate_of h) k) 3) (every_below both_free 6 e k l))))

  marks_beq : (a b : Bool) → ◌≡◌ {A = ℕ} (cond a 0 1) (cond b 0 1) → beq a b ≡ true
  marks_beq true true e = refl
  marks_beq true false e = absurd (omega arith)
  marks_beq false true e = absurd (omega arith)
  marks_beq false false e = refl

  equal_marks : control_marks g ≡ control_marks h → every both_free 0 6 ≡ true
  unfolding both_free
  equal_marks e =
      every_of both_free 6
      (λ k l. rw (control_word_lem g low-g k l, control_word_lem h low-h k l) (marks_beq (eqb (byte (2 + k) g) 3) (eqb (byte (2 + k) h) 3) (sym (control_mark g k l) ∙ ap (byte k) e ∙ control_mark h k l)))

  -- equal marks where the controls stand on the same lines
  pub marks_same : eqb (control_marks g) (control_marks h) ≡ every (λ k. beq (eqb (control (gate_of g) k) 3) (eqb (control (gate_of h) k) 3)) 0 6
  unfolding both_free
  marks_same =
      ⊎_elim (λ (e : every both_free 0 6 ≡ true). eq-eqb _ _ (marks_equal e) ∙ sym e)
      (λ (e : every both_free 0 6 ≡ false). ne_eqb _ _ (λ q. clash (every both_free 0 6) (equal_marks q) e) ∙ sym e) (decide (every both_free 0 6))

  unlike_mark : ℕ → ℕ
  unlike_mark k = cond (eqb (byte (2 + k) g) (byte k (h / 0x1_0000))) 0 1

  flipped : (b : Bool) → ◌≡◌ {A = ℕ} (cond b 0 1) (cond (not b) 1 0)
  flipped true = refl
  flipped false = refl

  apart_counted : other_marks g (h / 0x1_0000) % 255 ≡ differences (gate_of g) (gate_of h)
  unfolding other_marks differences differ_at unlike_mark
  apart_counted =
      marks_counted (λ k. eqb (byte (2 + k) g) (byte k (h / 0x1_0000)))
      ∙ sum_ext unlike_mark (λ k. cond (not (eqb (control (gate_of g) k) (control (gate_of h) k))) 1 0) 0 6
      (λ k le l. rw (control_word_lem g low-g k l, control_word_lem h low-h k l, byte_high k h) (flipped (eqb (byte (2 + k) g) (byte (2 + k) h))))

  -- the rule, by what the code reads off the numbers
  pub rule_counted : same_lines (gate_of g) (gate_of h) ≡ true → rule_by (g % 256) (h % 256) (other_marks g (h / 0x1_0000) % 255) ≡ rule_for (gate_of g) (gate_of h)
  rule_counted e = rw (rule_lines (gate_of g) (gate_of h), e, ← apart_counted, operator_word g, operator_word h)
