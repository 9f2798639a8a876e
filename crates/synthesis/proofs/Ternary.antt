-- The gates of the procedure are a family of exchanges, on up to six lines: a gate that controls every other line changes exactly two patterns.
-- Assumes nothing.
use Rattle.std.proofs.Common.{◌≡◌, refl, sym, ap, ◌∙◌, ⊎_elim, true, false, ℕ, ◌^◌, ◌≤◌, ◌<◌, le-ltb}
use Rattle.std.proofs.Math.Decide.{ℕ_discrete}
use Rattle.ranges.proofs.Bools.{decide}
use Rattle.digits.specs.Digits.{digit, put}
use Rattle.digits.proofs.Digits.{digit_lt, digit_put_same, digit_put_other, put_same, put_lt, digits_equal}
use Rattle.digits.proofs.Sizes.{three_pos}
use Rattle.gates.specs.Gates.{act, inverse_op, applied, inverse}
use Rattle.gates.specs.Inner.Firing.{fires}
use Rattle.gates.proofs.Gates.{applied_yes, applied_no, applied_lt, applied_inverse}
use Rattle.procedure.proofs.Families.{DigitChange, Exchanges}
use Rattle.synthesis.specs.Synthesis.{exchanger, gate_for}
use Rattle.synthesis.proofs.Exchangers.{exchanger_op, exchanger_there, exchanger_third}
use Rattle.synthesis.proofs.Controls.{is_gate, gate_fires, fires_gate}

-- N, D and E invert themselves
inverse_high : (o : ℕ) → 3 ≤ o → inverse_op o ≡ o
unfolding inverse_op
inverse_high o le = rw (le-ltb o 3 le)

inverse_same : (n k a d : ℕ) → inverse (gate_for n k a d) ≡ gate_for n k a d
unfolding inverse gate_for
inverse_same n k a d =
    let e : inverse_op (exchanger (digit 3 k a) d) ≡ exchanger (digit 3 k a) d = inverse_high _ (exchanger_op (digit 3 k a) d).0 in
    λ i. record { operator = e i; target = (gate_for n k a d).target; controls = (gate_for n k a d).controls }

module _ (n : ℕ) (lines : n ≤ 6) (k a d : ℕ) (w : DigitChange 3 n k a d) where
  gate_twice : (p : ℕ) → applied (gate_for n k a d) (applied (gate_for n k a d) p) ≡ p
  gate_twice p = rw (inverse_same n k a d) at (applied_inverse n (gate_for n k a d) p (is_gate n k a d lines w.line))

  gate_value : (p : ℕ) → fires (gate_for n k a d) p ≡ true → applied (gate_for n k a d) p ≡ put 3 k p (act (exchanger (digit 3 k a) d) (digit 3 k p))
  unfolding gate_for
  gate_value p e = applied_yes (gate_for n k a d) p e

  gate_keeps : (p : ℕ) → p < 3 ^ n → applied (gate_for n k a d) p < 3 ^ n
  unfolding gate_for
  gate_keeps p lp = applied_lt n (gate_for n k a d) p w.line lp

  gate_there : applied (gate_for n k a d) a ≡ put 3 k a d
  gate_there =
      gate_value a (gate_fires n k a d lines w.line a (λ j lt ne. refl))
      ∙ ap (put 3 k a) (exchanger_there (digit 3 k a) d (digit_lt 3 k a three_pos) w.value w.differs)

  -- a pattern on which it fires is a with another digit k
  fires_only_put : (p : ℕ) → p < 3 ^ n → fires (gate_for n k a d) p ≡ true → (x : ℕ) → x < 3 → digit 3 k p ≡ x → p ≡ put 3 k a x
  fires_only_put p lp e x lx ex =
      digits_equal 3 n p (put 3 k a x) three_pos lp (put_lt 3 n k a x w.pattern w.line lx) (λ j lt. same j lt (ℕ_discrete j k))
    where
      same : (j : ℕ) → j < n → Dec (j ≡ k) → digit 3 j p ≡ digit 3 j (put 3 k a x)
      same j lt (yes q) = rw q (ex ∙ sym (digit_put_same 3 k a x lx))
      same j lt (no ne) = sym (fires_gate n k a d lines w.line p e j lt ne) ∙ sym (digit_put_other 3 j k a x lx ne)

  gate_others : (p : ℕ) → p < 3 ^ n → (p ≡ a → ⊥) → (p ≡ put 3 k a d → ⊥) → applied (gate_for n k a d) p ≡ p
  gate_others p lp na nb =
      ⊎_elim (λ (e : fires (gate_for n k a d) p ≡ true). gate_value p e ∙ ap (put 3 k p) (third e) ∙ put_same 3 k p)
      (λ (e : fires (gate_for n k a d) p ≡ false). applied_no (gate_for n k a d) p e) (decide (fires (gate_for n k a d) p))
    where
      third : fires (gate_for n k a d) p ≡ true → act (exchanger (digit 3 k a) d) (digit 3 k p) ≡ digit 3 k p
      third e =
          exchanger_third (digit 3 k a) d (digit 3 k p) (digit_lt 3 k a three_pos) w.value (digit_lt 3 k p three_pos) w.differs
          (λ q. na (fires_only_put p lp e (digit 3 k a) (digit_lt 3 k a three_pos) q ∙ put_same 3 k a)) (λ q. nb (fires_only_put p lp e d w.value q))

pub ternary : (n : ℕ) → n ≤ 6 → Exchanges 3 applied gate_for n
ternary n lines =
    record {
      twice = λ k a d w p lp. gate_twice n lines k a d w p;
      keeps = λ k a d w p lp. gate_keeps n lines k a d w p lp;
      there = λ k a d w. gate_there n lines k a d w;
      others = λ k a d w p lp na nb. gate_others n lines k a d w p lp na nb;
    }
