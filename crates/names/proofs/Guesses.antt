-- What is guessed of a gate's line is that gate: so a line is that of one gate at most. Assumes nothing.
use Rattle.std.proofs.Common.{◌≡◌, refl, sym, ap, ◌∙◌, true, false, ⊎_elim, List, [], ◌∷◌, ◌++◌, append_assoc, ℕ, zero, suc, ◌+◌, ◌%◌, ◌^◌, ◌≤◌, ◌<◌, mod-lt, add-one, arith, get_or, drop, get_or-drop, drop-drop, eq-eqb, ne_eqb}
use Rattle.std.proofs.Math.Decide.{ℕ_discrete}
use Rattle.ranges.specs.Ranges.{span}
use Rattle.ranges.proofs.Counts.{here_or_later}
use Rattle.ranges.proofs.Bools.{cond_lt}
use Rattle.digits.specs.Digits.{digit, pack}
use Rattle.digits.proofs.Digits.{digit_lt}
use Rattle.digits.proofs.Packs.{pack_ext, pack_lt, pack_digits}
use Rattle.gates.specs.declared.Gate.{Gate}
use Rattle.gates.specs.Gates.{control, IsGate}
use Rattle.gates.proofs.Operators.{five}
use Rattle.texts.specs.Texts.{joined, decimal}
use Rattle.texts.specs.GateTexts.{line_text, control_text, gate_text}
use Rattle.texts.proofs.Decimals.{width_small}
use Rattle.names.specs.Names.{other_name}
use Rattle.names.specs.Inner.Guesses.{operator_in, stands, behind_controls, control_in, guessed}

-- ---- a digit, a line and a control in print: 32 is a space, 120 an x, 61 the sign =

decimal_small : (x : ℕ) → x < 10 → decimal x ≡ (48 + x) ∷ []
unfolding decimal span digit
decimal_small x lt = rw (width_small x lt) (ap (λ (y : ℕ). y ∷ []) (omega arith))

line_text_lem : (k : ℕ) → k < 10 → line_text k ≡ 32 ∷ 120 ∷ (48 + k) ∷ []
unfolding line_text
line_text_lem k lt = rw (decimal_small k lt)

-- ---- the controls of a line, and its newline

abbrev pub left : Gate → ℕ → ℕ → List ℕ
left g j m = joined (span (control_text g) j m) ++ (10 ∷ [])

control_small : (g : Gate) (k : ℕ) → control g k < 4
control_small g k = digit_lt 4 k g.controls (omega arith)

pub control_none : (g : Gate) (k : ℕ) → control g k ≡ 3 → control_text g k ≡ []
unfolding control_text
control_none g k e = rw (eq-eqb (control g k) 3 e)

pub control_some : (g : Gate) (k : ℕ) → k < 10 → (control g k ≡ 3 → ⊥) → control_text g k ≡ 32 ∷ 120 ∷ (48 + k) ∷ 61 ∷ (48 + control g k) ∷ []
unfolding control_text
control_some g k lt ne = rw (ne_eqb (control g k) 3 ne, line_text_lem k lt, decimal_small (control g k) (omega (arith, control_small g k)))

left_none : (g : Gate) (j m : ℕ) → control g j ≡ 3 → left g j (suc m) ≡ left g (j + 1) m
unfolding joined span
left_none g j m e = rw (control_none g j e)

left_some : (g : Gate) (j m : ℕ) → j < 10 → (control g j ≡ 3 → ⊥) → left g j (suc m) ≡ 32 ∷ 120 ∷ (48 + j) ∷ 61 ∷ (48 + control g j) ∷ left g (j + 1) m
unfolding joined span
left_some g j m lt ne = rw (control_some g j lt ne)

-- from line j on, no lower line stands there
lower : (g : Gate) (m j k : ℕ) → k < j → j + m ≤ 10 → get_or (left g j m) 2 0 ≡ 48 + k → ⊥
unfolding joined span
lower g zero j k lt le e = omega (arith, e)
lower g (suc m) j k lt le e = go (lower g m (j + 1) k (omega arith) (omega arith)) (ℕ_discrete (control g j) 3) e
  where
    go : (get_or (left g (j + 1) m) 2 0 ≡ 48 + k → ⊥) → Dec (control g j ≡ 3) → get_or (left g j (suc m)) 2 0 ≡ 48 + k → ⊥
    go h (yes q) e = h (sym (ap (λ (l : List ℕ). get_or l 2 0) (left_none g j m q)) ∙ e)
    go h (no ne) e =
        let z : 48 + j ≡ 48 + k = sym (ap (λ (l : List ℕ). get_or l 2 0) (left_some g j m (omega arith) ne)) ∙ e in
        omega (arith, z)

-- ---- reading them, line by line

past_yes : (l : List ℕ) (k : ℕ) → stands l (behind_controls l k) k ≡ true → (behind_controls l (suc k) ≡ behind_controls l k + 5) × (control_in l k ≡ get_or l (behind_controls l k + 4) 0 % 4)
unfolding behind_controls control_in
past_yes l k e = (rw e, rw e)

past_no : (l : List ℕ) (k : ℕ) → stands l (behind_controls l k) k ≡ false → (behind_controls l (suc k) ≡ behind_controls l k) × (control_in l k ≡ 3)
unfolding behind_controls control_in
past_no l k e = (rw e, rw e)

module _ (g : Gate) (l : List ℕ) where
  there : (k i : ℕ) (r : List ℕ) → drop (behind_controls l k) l ≡ r → get_or l (behind_controls l k + i) 0 ≡ get_or r i 0
  there k i r e = sym (get_or-drop (behind_controls l k) l i 0) ∙ ap (λ (x : List ℕ). get_or x i 0) e

  step : (k m : ℕ) → k + suc m ≤ 6 → drop (behind_controls l k) l ≡ left g k (suc m) → (drop (behind_controls l (suc k)) l ≡ left g (suc k) m) × (control_in l k ≡ control g k)
  unfolding stands
  step k m le e = go (ℕ_discrete (control g k) 3)
    where
      go : Dec (control g k ≡ 3) → (drop (behind_controls l (suc k)) l ≡ left g (suc k) m) × (control_in l k ≡ control g k)
      go (yes q) =
          let r : drop (behind_controls l k) l ≡ left g (k + 1) m = e ∙ left_none g k m q in
          let d = there k 2 (left g (k + 1) m) r in
          let no = past_no l k (unfold stands in ne_eqb (get_or l (behind_controls l k + 2) 0) (48 + k) (λ z. lower g m (k + 1) k (omega arith) (omega arith) (sym d ∙ z))) in
          (rw (no.0, ← add-one k) r, no.1 ∙ sym q)
      go (no ne) =
          let s : List ℕ = 32 ∷ 120 ∷ (48 + k) ∷ 61 ∷ (48 + control g k) ∷ left g (k + 1) m in
          let r : drop (behind_controls l k) l ≡ 32 ∷ 120 ∷ (48 + k) ∷ 61 ∷ (48 + control g k) ∷ left g (k + 1) m = e ∙ left_some g k m (omega arith) ne in
          let yes = past_yes l k (unfold stands in eq-eqb (get_or l (behind_controls l k + 2) 0) (48 + k) (there k 2 s r)) in
          let c : get_or l (behind_controls l k + 4) 0 ≡ 48 + control g k = there k 4 s r in
          let small = control_small g k in
          (rw (yes.0, ← add-one k) (sym (drop-drop 5 (behind_controls l k) l) ∙ ap (drop 5) r), yes.1 ∙ rw c (omega (arith, small)))

  -- so are all from line k on
  controls_from : (m k : ℕ) → k + m ≡ 6 → drop (behind_controls l k) l ≡ left g k m → (j : ℕ) → k ≤ j → j < 6 → control_in l j ≡ control g j
  controls_from zero k six e j le lt = absurd (omega arith)
  controls_from (suc m) k six e j le lt =
      let s = step k m (omega arith) e in
      ⊎_elim (λ (q : k ≡ j). rw (← q) s.1) (λ (l : k < j). controls_from m (suc k) (omega arith) s.0 j l lt) (here_or_later le)

  all : drop 5 l ≡ left g 0 6 → (k : ℕ) → k < 6 → control_in l k ≡ control g k
  unfolding behind_controls
  all e k lt = controls_from 6 0 (omega arith) e k (omega arith) lt

-- ---- the head of a line

pub parts : (g : Gate) → g.target < 10 → gate_text other_name g ≡ other_name g.operator ++ (32 ∷ 120 ∷ (48 + g.target) ∷ left g 0 6)
unfolding gate_text
parts g lt = rw (line_text_lem g.target lt) (simp append_assoc)

record Head (o t : ℕ) (r l : List ℕ) : Type 0 where
  op : operator_in l ≡ o
  aim : get_or l 4 0 ≡ 48 + t
  rest : drop 5 l ≡ r

head : (t : ℕ) (r : List ℕ) (o : ℕ) → 1 ≤ o → o ≤ 5 → Head o t r (other_name o ++ (32 ∷ 120 ∷ (48 + t) ∷ r))
unfolding operator_in other_name
head t r =
    five (λ (o : ℕ). Head o t r (other_name o ++ (32 ∷ 120 ∷ (48 + t) ∷ r)))
    (record { op = refl; aim = refl; rest = refl })
    (record { op = refl; aim = refl; rest = refl })
    (record { op = refl; aim = refl; rest = refl })
    (record { op = refl; aim = refl; rest = refl })
    (record { op = refl; aim = refl; rest = refl })

-- ---- the trip

pub guess_back : (n : ℕ) (g : Gate) → n ≤ 6 → IsGate n g → guessed (gate_text other_name g) ≡ g
unfolding guessed
guess_back n g six ok =
    let on = ok.on_line in
    let h : Head g.operator g.target (left g 0 6) (gate_text other_name g) =
    rw (parts g (omega arith)) (head g.target (left g 0 6) g.operator ok.op_low ok.op_high) in
    let a = h.aim in
    let t : get_or (gate_text other_name g) 4 0 % 8 ≡ g.target = rw h.aim (omega arith) in
    let c : pack 4 (control_in (gate_text other_name g)) 6 ≡ g.controls =
    pack_ext 4 (control_in (gate_text other_name g)) (control g) 6 (all g (gate_text other_name g) h.rest) ∙ pack_digits 4 6 g.controls (omega arith) ok.packed in
    λ i. record { operator = h.op i; target = t i; controls = c i }

control_in_lt : (l : List ℕ) (k : ℕ) → control_in l k < 4
unfolding control_in
control_in_lt l k = cond_lt (stands l (behind_controls l k) k) (mod-lt (get_or l (behind_controls l k + 4) 0) (omega arith)) (omega arith)

pub controls_in_lt : (l : List ℕ) (m : ℕ) → pack 4 (control_in l) m < 4 ^ m
controls_in_lt l m = pack_lt 4 (control_in l) m (λ k lt. control_in_lt l k)

pub guess_packed : (l : List ℕ) → (guessed l).controls < 4 ^ 6
unfolding guessed
guess_packed l = controls_in_lt l 6
