-- `rules::fitting::reduce_pair` meets its contract: the two differ on one line alone, and the third value is a value. Assumes nothing.
use Rattle.std.proofs.Common.{◌≡◌, ◌≢◌, ℕ, ◌-◌, ◌≤◌, ◌<◌, ap, ◌∙◌, arith}
use lib.Bits.{bit_xor, xor_lt, xor_self, xor_add_and, and_le_l, and_le_r}
use native.Mathlib.Decide.{ℕ_discrete}
use Rattle.digits.specs.Digits.{digit, put}
use Rattle.digits.proofs.Bits.{digit_xor}
use Rattle.gates.specs.declared.Gate.{Gate}
use Rattle.gates.specs.Gates.{inverse}
use Rattle.gates.specs.Inner.Lines.{LowestLine}
use Rattle.rules.specs.Rules.{line_of, with_control, loosened, retuned}
use Rattle.rules.proofs.Rules.{Reduction, reduction, third}
use Rattle.rules.proofs.fitting.reduce_pair.Goals as goal
use Rattle.rules.proofs.fitting.reduce_pair.Goals.{After-find_line-k}

xor_none : (x y : ℕ) → bit_xor x y ≡ 0 → x ≡ y
xor_none x y e = omega (arith, xor_add_and x y, and_le_l x y, and_le_r x y)

module _ (g h : Gate) (r : Reduction g h) where
  they_differ : 0 < bit_xor g.controls h.controls
  they_differ =
      let ne : bit_xor g.controls h.controls ≢ 0 = λ e. r.differ (ap (digit 4 (line_of g h)) (xor_none g.controls h.controls e)) in
      omega arith

  differ_there : (k : ℕ) → LowestLine (bit_xor g.controls h.controls) k → k ≡ line_of g h
  differ_there k low = go (ℕ_discrete k (line_of g h))
    where
      go : Dec (k ≡ line_of g h) → k ≡ line_of g h
      go (yes e) = e
      go (no ne) =
          let none : digit 4 k (bit_xor g.controls h.controls) ≡ 0 = digit_xor 2 k g.controls h.controls ∙ rw (r.others k low.line ne) (xor_self (digit 4 k h.controls)) in
          absurd (omega (arith, low.some))

  -- the two values there
  values : (k s t : ℕ) → k ≡ line_of g h → s ≡ digit 4 k g.controls → t ≡ digit 4 k h.controls → (s ≤ 3) × (t ≤ 3 - s)
  values k s t e es et =
      let first : s < 3 = rw (es, e) r.first_lt in
      let second : t < 3 = rw (et, e) r.second_lt in
      let ne : s ≢ t = rw (es, et, e) r.differ in
      omega arith

module _ (c : After-find_line-k) where
  line : c.find_line-k.result ≡ line_of c.args.g c.args.h
  line = differ_there _ _ (reduction _ _ c.requires.0) _ c.find_line-k.ensures

pub find_line-k-requires : goal.find_line-k-requires
find_line-k-requires c = (they_differ _ _ (reduction _ _ c.requires.0), xor_lt 12 _ _ c.requires.1 c.requires.2)

pub overflow_sub-s : goal.overflow_sub-s
overflow_sub-s c = (values _ _ (reduction _ _ c.requires.0) _ _ _ (line (goal.at.overflow_sub-s c).After-find_line-k) c.control_on-s.ensures c.control_on-t.ensures).0

pub overflow_sub-s-2 : goal.overflow_sub-s-2
overflow_sub-s-2 c = (values _ _ (reduction _ _ c.requires.0) _ _ _ (line (goal.at.overflow_sub-s-2 c).After-find_line-k) c.control_on-s.ensures c.control_on-t.ensures).1

pub returns : goal.returns
unfolding loosened retuned with_control
returns c =
    let e : c.with_control.result ≡ put 4 (line_of c.args.g c.args.h) c.args.g.controls 3 = c.with_control.ensures ∙ rw (line (goal.at.returns c).After-find_line-k) in
    let f : c.with_control-2.result ≡ put 4 (line_of c.args.g c.args.h) c.args.h.controls (third c.args.g c.args.h) =
    c.with_control-2.ensures ∙ rw (c.control_on-s.ensures, c.control_on-t.ensures, line (goal.at.returns c).After-find_line-k) in
    (λ i. record { operator = c.args.g.operator; target = c.args.g.target; controls = e i }, c.invert.ensures ∙ (λ i. inverse (record { operator = c.args.h.operator; target = c.args.h.target; controls = f i })))
