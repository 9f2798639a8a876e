-- Good lines: each is the line of one gate on n lines, which is the one that is guessed; and so it is told by what is guessed. Assumes nothing.
use Rattle.std.proofs.Common.{◌≡◌, sym, ap, ◌∙◌, subst, true, false, ◌&&◌, ◌⊎◌, List, ℕ, ◌+◌, ◌*◌, ◌/◌, ◌%◌, ◌^◌, ◌≤◌, ◌<◌, arith}
use Rattle.ranges.specs.Ranges.{some, first}
use Rattle.ranges.proofs.Bools.{and_left, and_right, decide, clash}
use Rattle.ranges.proofs.Counts.{lt_or_le}
use Rattle.ranges.proofs.Tests.{some_hit, some_not}
use Rattle.ranges.proofs.Searches.{Found, found}
use Rattle.gates.specs.declared.Gate.{Gate}
use Rattle.gates.specs.Gates.{IsGate}
use Rattle.gates.specs.Records.{is_record, record_of}
use Rattle.gates.proofs.Records.{gate_record, record_gate}
use Rattle.texts.specs.GateTexts.{gate_text}
use Rattle.names.specs.Names.{other_name, numbered, same_text, spells, good, gate_named}
use Rattle.names.specs.Inner.Guesses.{guessed}
use Rattle.names.proofs.SameTexts.{same_is, same_self}
use Rattle.names.proofs.Guesses.{guess_back, guess_packed}

-- ---- the number of a gate on n lines
abbrev number_of : Gate → ℕ
number_of g = g.operator + 8 * g.target + 64 * g.controls

number_of_lem : (n : ℕ) (g : Gate) → n ≤ 6 → IsGate n g → (number_of g < 262144) × (numbered (number_of g) ≡ g)
unfolding numbered
number_of_lem n g six ok =
    let hi = ok.op_high in
    let on = ok.on_line in
    let small : g.controls < 4096 = ok.packed in
    let o : number_of g % 8 ≡ g.operator = omega arith in
    let a : number_of g / 8 ≡ g.target + 8 * g.controls = omega arith in
    let b : (g.target + 8 * g.controls) % 8 ≡ g.target = omega arith in
    let t : number_of g / 8 % 8 ≡ g.target = ap (λ (x : ℕ). x % 8) a ∙ b in
    let c : number_of g / 64 ≡ g.controls = omega arith in
    (omega arith, λ i. record { operator = o i; target = t i; controls = c i })

-- ---- a gate's line is good, a good line is that of its gate, and this is what is guessed

module _ (n : ℕ) (six : n ≤ 6) where
  spelt : (l : List ℕ) (i : ℕ) → i < 262144 → spells n l i ≡ true → IsGate n (numbered i) × (gate_text other_name (numbered i) ≡ l)
  unfolding spells
  spelt l i lt e =
      let small : (numbered i).controls < 4 ^ 6 = unfold numbered in omega arith in
      (record_gate n (numbered i) six small (and_left (is_record n (record_of (numbered i)) 0) _ e), same_is (gate_text other_name (numbered i)) l (and_right (is_record n (record_of (numbered i)) 0) _ e))

  spells_own : (g : Gate) → IsGate n g → spells n (gate_text other_name g) (number_of g) ≡ true
  unfolding spells
  spells_own g ok = rw ((number_of_lem n g six ok).1, gate_record n g ok, same_self (gate_text other_name g))

  pub gate_good : (g : Gate) → IsGate n g → good n (gate_text other_name g) ≡ true
  unfolding good
  gate_good g ok =
      let h = number_of_lem n g six ok in
      some_hit (spells n (gate_text other_name g)) 0 262144 (number_of g) (omega arith) (omega (arith, h.0)) (spells_own g ok)

  pub good_gate : (l : List ℕ) → good n l ≡ true → IsGate n (gate_named n l) × (gate_text other_name (gate_named n l) ≡ l)
  unfolding good gate_named
  good_gate l e = go (lt_or_le (first (spells n l) 0 262144) 262144)
    where
      f : Found (spells n l) 0 262144 (first (spells n l) 0 262144)
      f = found (spells n l) 0 262144

      go : (first (spells n l) 0 262144 < 262144) ⊎ (262144 ≤ first (spells n l) 0 262144)
          → IsGate n (numbered (first (spells n l) 0 262144)) × (gate_text other_name (numbered (first (spells n l) 0 262144)) ≡ l)
      go (◌⊎◌.inl lt) = spelt l (first (spells n l) 0 262144) lt (f.hit lt)
      go (◌⊎◌.inr le) = clash (some (spells n l) 0 262144) e (some_not (spells n l) 0 262144 (λ k lo lt. f.before k lo (omega arith)))

  pub good_guessed : (l : List ℕ) → good n l ≡ true → guessed l ≡ gate_named n l
  good_guessed l e = let h = good_gate l e in ap guessed (sym h.1) ∙ guess_back n (gate_named n l) six h.0

  -- the gate of a gate's line is that gate
  pub named_back : (g : Gate) → IsGate n g → gate_named n (gate_text other_name g) ≡ g
  named_back g ok = sym (good_guessed (gate_text other_name g) (gate_good g ok)) ∙ guess_back n g six ok

  -- ---- told by what is guessed

  pub good_by_guess : (l : List ℕ) → good n l ≡ (is_record n (record_of (guessed l)) 0 && same_text (gate_text other_name (guessed l)) l)
  good_by_guess l = go (decide (good n l)) (decide (is_record n (record_of (guessed l)) 0 && same_text (gate_text other_name (guessed l)) l))
    where
      there : good n l ≡ true → (is_record n (record_of (guessed l)) 0 && same_text (gate_text other_name (guessed l)) l) ≡ true
      there e = let h = good_gate l e in rw (good_guessed l e, gate_record n (gate_named n l) h.0, h.1) (same_self l)

      back : (is_record n (record_of (guessed l)) 0 && same_text (gate_text other_name (guessed l)) l) ≡ true → good n l ≡ true
      back e =
          let ok = record_gate n (guessed l) six (guess_packed l) (and_left (is_record n (record_of (guessed l)) 0) _ e) in
          subst (λ (x : List ℕ). good n x ≡ true) (same_is (gate_text other_name (guessed l)) l (and_right (is_record n (record_of (guessed l)) 0) _ e)) (gate_good (guessed l) ok)

      go : (good n l ≡ true) ⊎ (good n l ≡ false)
          → ((is_record n (record_of (guessed l)) 0 && same_text (gate_text other_name (guessed l)) l) ≡ true) ⊎ ((is_record n (record_of (guessed l)) 0 && same_text (gate_text other_name (guessed l)) l) ≡ false)
          → good n l ≡ (is_record n (record_of (guessed l)) 0 && same_text (gate_text other_name (guessed l)) l)
      go (◌⊎◌.inl a) b = a ∙ sym (there a)
      go (◌⊎◌.inr a) (◌⊎◌.inl b) = clash (good n l) (back b) a
      go (◌⊎◌.inr a) (◌⊎◌.inr b) = a ∙ sym b

-- two gates with the same line are equal
pub one_gate : (n m : ℕ) (g h : Gate) → n ≤ 6 → m ≤ 6 → IsGate n g → IsGate m h → gate_text other_name g ≡ gate_text other_name h → g ≡ h
one_gate n m g h six six' ok ok' e = sym (guess_back n g six ok) ∙ ap guessed e ∙ guess_back m h six' ok'
