-- How long the line of a gate is, and that no line has more than 31 bytes where no name has more than two letters. Assumes nothing.
use Rattle.std.proofs.Common.{◌≡◌, refl, ap, ◌∙◌, Bool, true, false, cond, List, [], ◌∷◌, ◌++◌, ℕ, zero, suc, ◌+◌, ◌*◌, ◌%◌, ◌≤◌, ◌<◌, mul-suc, arith, eqb, length, length-append}
use Rattle.ranges.specs.Ranges.{sum, span}
use Rattle.ranges.specs.Lists.{Each}
use Rattle.ranges.proofs.Sums.{sum_ext, sum_le_but}
use Rattle.digits.specs.Digits.{digit}
use Rattle.digits.proofs.Digits.{digit_lt}
use Rattle.gates.specs.declared.Gate.{Gate}
use Rattle.gates.specs.Gates.{control, IsGate}
use Rattle.gates.specs.Inner.Words.{byte, gate_of, GateWord, control_marks}
use Rattle.gates.proofs.Bytes.{operator_word, target_word}
use Rattle.gates.proofs.Marks.{marks_counted, control_word_lem}
use Rattle.texts.specs.Texts.{ascii, decimal, joined}
use Rattle.texts.specs.GateTexts.{line_text, control_text, gate_text, gate_texts}
use Rattle.texts.proofs.Decimals.{length_decimal, width_small}

length_joined : (f : ℕ → List ℕ) (i m : ℕ) → length (joined (span f i m)) ≡ sum (λ k. length (f k)) i m
unfolding joined span sum
length_joined f i zero = refl
length_joined f i (suc m) = length-append (f i) (joined (span f (i + 1) m)) ∙ ap (λ (x : ℕ). length (f i) + x) (length_joined f (i + 1) m)

length_line : (k : ℕ) → k < 10 → length (line_text k) ≡ 3
unfolding line_text
length_line k lt = rw (length-append, length_decimal, width_small k lt)

-- a control has 5 bytes
length_control : (g : Gate) (k : ℕ) → k < 6 → length (control_text g k) ≡ cond (eqb (control g k) 3) 0 5
unfolding control_text
length_control g k lt = go (eqb (control g k) 3)
  where
    go : (b : Bool) → length (cond b [] (line_text k ++ ascii "=" ++ decimal (control g k))) ≡ cond b 0 5
    go true = refl
    go false =
        let small : digit 4 k g.controls < 4 = digit_lt 4 k g.controls (omega arith) in
        rw (length-append, length-append, length_line k (omega arith), length_decimal, width_small (control g k) (omega arith))

-- the bytes of all controls
abbrev pub control_bytes : Gate → ℕ
control_bytes g = sum (λ k. cond (eqb (control g k) 3) 0 5) 0 6

five_most : (t : Bool) → cond t 0 5 ≤ 5
five_most true = omega arith
five_most false = omega arith

module _ (name : ℕ → List ℕ) where
  length_gate : (g : Gate) → g.target < 10 → length (gate_text name g) ≡ length (name g.operator) + (4 + control_bytes g)
  unfolding gate_text
  length_gate g lt =
      let s : sum (λ k. length (control_text g k)) 0 6 ≡ control_bytes g = sum_ext (λ k. length (control_text g k)) (λ k. cond (eqb (control g k) 3) 0 5) 0 6 (λ k le lt. length_control g k (omega arith)) in
      rw (length-append, length-append, length-append, length_line g.target lt, length_joined, s) (omega arith)

  -- the line of a word's gate: as many controls as there are marks
  pub word_long : (w : ℕ) → GateWord w → length (name (w % 256)) + 4 + 5 * (control_marks w % 255) ≡ length (gate_text name (gate_of w))
  unfolding sum control_marks
  word_long w g =
      let one : (k : ℕ) → k < 6 → cond {A = ℕ} (eqb (control (gate_of w) k) 3) 0 5 ≡ 5 * cond (eqb (byte (2 + k) w) 3) 0 1 = λ k lt. rw (control_word_lem w g.lines k lt) (five (eqb (byte (2 + k) w) 3)) in
      let l : length (gate_text name (gate_of w)) ≡ length (name (w % 256)) + (4 + control_bytes (gate_of w)) = rw (← operator_word w) (length_gate (gate_of w) (omega (arith, g.on_line, target_word w))) in
      omega (arith, l, marks_counted (λ k. eqb (byte (2 + k) w) 3), one 0 (omega arith), one 1 (omega arith), one 2 (omega arith), one 3 (omega arith), one 4 (omega arith), one 5 (omega arith))
    where
      five : (t : Bool) → cond t 0 5 ≡ 5 * cond t 0 1
      five true = refl
      five false = refl

  -- with names of at most two letters
  module _ (short : (o : ℕ) → o ≤ 5 → length (name o) ≤ 2) (n : ℕ) (six : n ≤ 6) where
    -- the longest line has five controls, as the target has none
    pub gate_most : (g : Gate) → IsGate n g → length (gate_text name g) ≤ 31
    gate_most g ok =
        let none : cond {A = ℕ} (eqb (control g g.target) 3) 0 5 ≡ 0 = rw ok.own in
        let few : control_bytes g + 5 ≤ 6 * 5 = sum_le_but (λ k. cond (eqb (control g k) 3) 0 5) 5 0 6 g.target (λ k. five_most (eqb (control g k) 3)) (omega arith) (omega (arith, ok.on_line)) none in
        omega (arith, length_gate g (omega (arith, ok.on_line)), short g.operator ok.op_high)

    pub gates_most : (gs : List Gate) → Each (IsGate n) gs → length (gate_texts name gs) ≤ 31 * length gs
    unfolding gate_texts joined
    gates_most [] each = omega arith
    gates_most (g ∷ gs) each =
        omega (arith, length-append (gate_text name g) (gate_texts name gs), gate_most g each.0, gates_most gs each.1, mul-suc 31 (length gs))
