-- Whole texts: what was written is read back, what is accepted was written, and one turn of the loops over a text's lines. Assumes nothing.
use Rattle.std.proofs.Common.{◌≡◌, refl, sym, ap, ap₂, ◌∙◌, Bool, true, false, cond, not, ◌⊎◌, List, [], ◌∷◌, ◌++◌, map, append_assoc, append-nil, ℕ, zero, suc, ◌+◌, ◌-◌, ◌*◌, ◌/◌, ◌≤◌, ◌<◌, arith, ltb, length, get_or, take, length-take-le, take_all, lt-ltb, le-ltb, ltb-false}
use Rattle.std.proofs.lemmas.List.{length-map, get_or_default, map_more}
use Rattle.std.proofs.lemmas.List.Edits.{sets}
use Rattle.std.proofs.lemmas.Bool.{not-false}
use Rattle.std.proofs.Math.Nat.{sub-zero}
use Rattle.std.proofs.Math.Decide.{ℕ_discrete}
use Rattle.std.proofs.Math.Seq.{length-sets}
use Rattle.ranges.specs.Ranges.{span, first}
use Rattle.ranges.specs.Lists.{Each}
use Rattle.ranges.proofs.Lists.{each_append}
use Rattle.ranges.proofs.Bools.{decide}
use Rattle.ranges.proofs.Searches.{first_suc, first_more, first_hit, first_ends}
use Rattle.ranges.proofs.Stores.{sets_append}
use Rattle.card.specs.Card.{Answer, Answer.accepted, Answer.refused, refusing, lines_ok, on_lines}
use Rattle.card.proofs.Cards.{refusing_yes, refusing_no, refusing_passed, good_lines, lines_are, not_accepted}
use Rattle.gates.specs.declared.Gate.{Gate}
use Rattle.gates.specs.Gates.{control, IsGate}
use Rattle.gates.specs.Records.{record_of}
use Rattle.gates.proofs.Operators.{five}
use Rattle.cascades.specs.Cascades.{bytes_of, Cascade}
use Rattle.cascades.proofs.Stored.{length_bytes}
use Rattle.texts.specs.Texts.{joined}
use Rattle.texts.specs.GateTexts.{control_text, gate_text, gate_texts}
use Rattle.names.specs.Names.{other_name, text_lines, good, gate_named, gates_named, first_wrong, on_text, read_names_answer}
use Rattle.names.specs.Inner.Guesses.{guessed}
use Rattle.names.proofs.TextLines.{Plain, lines_nil, lines_joined, first_line}
use Rattle.names.proofs.Guesses.{parts, control_none, control_some}
use Rattle.names.proofs.GoodLines.{good_gate, gate_good, good_guessed, named_back}

-- ---- a gate's line has one newline, at its end

plain_append : (p q : List ℕ) → Plain p → Plain q → Plain (p ++ q)
plain_append p q a b = each_append (λ c. c ≡ 10 → ⊥) p q a b

plain_name : (o : ℕ) → 1 ≤ o → o ≤ 5 → Plain (other_name o)
unfolding other_name
plain_name =
    five (λ (o : ℕ). Plain (other_name o))
    (λ e. omega (arith, e), (λ e. omega (arith, e), tt))
    (λ e. omega (arith, e), (λ e. omega (arith, e), tt))
    (λ e. omega (arith, e), (λ e. omega (arith, e), tt))
    (λ e. omega (arith, e), (λ e. omega (arith, e), tt))
    (λ e. omega (arith, e), (λ e. omega (arith, e), tt))

plain_control : (g : Gate) (k : ℕ) → k < 10 → Plain (control_text g k)
plain_control g k lt = go (ℕ_discrete (control g k) 3)
  where
    go : Dec (control g k ≡ 3) → Plain (control_text g k)
    go (yes q) = rw (control_none g k q) tt
    go (no ne) =
        rw (control_some g k lt ne) (λ e. omega (arith, e), (λ e. omega (arith, e), (λ e. omega (arith, e), (λ e. omega (arith, e), (λ e. omega (arith, e), tt)))))

plain_controls : (g : Gate) (j m : ℕ) → j + m ≤ 10 → Plain (joined (span (control_text g) j m))
unfolding joined span
plain_controls g j zero le = tt
plain_controls g j (suc m) le = plain_append (control_text g j) (joined (span (control_text g) (j + 1) m)) (plain_control g j (omega arith)) (plain_controls g (j + 1) m (omega arith))

-- so it is the first line of a text that begins with it
text_line : (n : ℕ) (g : Gate) (t : List ℕ) → n ≤ 6 → IsGate n g → text_lines (gate_text other_name g ++ t) ≡ gate_text other_name g ∷ text_lines t
text_line n g t six ok =
    let on = ok.on_line in
    let p : List ℕ = other_name g.operator ++ (32 ∷ 120 ∷ (48 + g.target) ∷ joined (span (control_text g) 0 6)) in
    let e : gate_text other_name g ≡ (other_name g.operator ++ (32 ∷ 120 ∷ (48 + g.target) ∷ joined (span (control_text g) 0 6))) ++ (10 ∷ []) =
    parts g (omega arith) ∙ sym (append_assoc (other_name g.operator) (32 ∷ 120 ∷ (48 + g.target) ∷ joined (span (control_text g) 0 6)) (10 ∷ [])) in
    let plain : Plain (other_name g.operator ++ (32 ∷ 120 ∷ (48 + g.target) ∷ joined (span (control_text g) 0 6))) =
    plain_append (other_name g.operator) (32 ∷ 120 ∷ (48 + g.target) ∷ joined (span (control_text g) 0 6)) (plain_name g.operator ok.op_low ok.op_high)
    (λ z. omega (arith, z), (λ z. omega (arith, z), (λ z. omega (arith, z), plain_controls g 0 6 (omega arith)))) in
    ap (λ (x : List ℕ). text_lines (x ++ t)) e ∙ ap text_lines (append_assoc p (10 ∷ []) t) ∙ first_line p t plain ∙ ap (λ (x : List ℕ). x ∷ text_lines t) (sym e)

-- ---- the first line that is not good

module _ (n : ℕ) (l : List ℕ) (ls : List (List ℕ)) where
  wrong_later : good n l ≡ true → first_wrong n (l ∷ ls) ≡ suc (first_wrong n ls)
  unfolding first_wrong first
  wrong_later e = rw e (first_suc (λ i. not (good n (get_or (l ∷ ls) i []))) (λ i. not (good n (get_or ls i []))) (λ k. refl) 0 (length ls))

  wrong_here : good n l ≡ false → first_wrong n (l ∷ ls) ≡ 0
  unfolding first_wrong first
  wrong_here e = rw e

all_good : (n : ℕ) (ls : List (List ℕ)) → length ls ≤ first_wrong n ls → Each (λ l. good n l ≡ true) ls
all_good n [] le = tt
all_good n (l ∷ ls) le = go (all_good n ls) (decide (good n l))
  where
    go : (length ls ≤ first_wrong n ls → Each (λ l. good n l ≡ true) ls) → (good n l ≡ true) ⊎ (good n l ≡ false) → Each (λ l. good n l ≡ true) (l ∷ ls)
    go h (◌⊎◌.inl e) = (e, h (omega (arith, wrong_later n l ls e)))
    go h (◌⊎◌.inr e) = absurd (omega (arith, wrong_here n l ls e))

-- ---- what was written is read back

module _ (n : ℕ) (six : n ≤ 6) where
  written_lines : (gs : List Gate) → Each (IsGate n) gs → text_lines (gate_texts other_name gs) ≡ map (gate_text other_name) gs
  unfolding gate_texts joined
  written_lines [] each = lines_nil
  written_lines (g ∷ gs) each = text_line n g (gate_texts other_name gs) six each.0 ∙ ap (λ (x : List (List ℕ)). gate_text other_name g ∷ x) (written_lines gs each.1)

  lines_gates : (gs : List Gate) → Each (IsGate n) gs → map (gate_named n) (map (gate_text other_name) gs) ≡ gs
  lines_gates [] each = refl
  lines_gates (g ∷ gs) each = ap₂ (λ (x : Gate) (l : List Gate). x ∷ l) (named_back n six g each.0) (lines_gates gs each.1)

  none_wrong : (gs : List Gate) → Each (IsGate n) gs → first_wrong n (map (gate_text other_name) gs) ≡ length gs
  none_wrong [] each = unfold first_wrong first in refl
  none_wrong (g ∷ gs) each = wrong_later n (gate_text other_name g) (map (gate_text other_name) gs) (gate_good n six g each.0) ∙ ap suc (none_wrong gs each.1)

  written_gates : (gs : List Gate) → Each (IsGate n) gs → gates_named n (gate_texts other_name gs) ≡ gs
  unfolding gates_named
  written_gates gs each = ap (map (gate_named n)) (written_lines gs each) ∙ lines_gates gs each

  good_texts : (ls : List (List ℕ)) → Each (λ l. good n l ≡ true) ls → (gate_texts other_name (map (gate_named n) ls) ≡ joined ls) × Each (IsGate n) (map (gate_named n) ls)
  unfolding gate_texts joined
  good_texts [] each = (refl, tt)
  good_texts (l ∷ ls) each =
      let h = good_texts ls each.1 in
      let g = good_gate n six l each.0 in
      (ap₂ (λ (a b : List ℕ). a ++ b) g.1 h.0, (g.0, h.1))

  guessed_gates : (ls : List (List ℕ)) → Each (λ l. good n l ≡ true) ls → map guessed ls ≡ map (gate_named n) ls
  guessed_gates [] each = refl
  guessed_gates (l ∷ ls) each = ap₂ (λ (x : Gate) (gs : List Gate). x ∷ gs) (good_guessed n six l each.0) (guessed_gates ls each.1)

-- a text that is written from a cascade is accepted where its records have room, and its gates are the cascade's
pub text_accepted : (n : ℕ) (gs : List Gate) (room : ℕ) → lines_ok n ≡ true → Cascade n gs → length gs ≤ room / 8
    → (read_names_answer n (gate_texts other_name gs) room ≡ accepted (length gs ∷ [])) × (gates_named n (gate_texts other_name gs) ≡ gs)
unfolding read_names_answer on_text
text_accepted n gs room ok c fits =
    let six = (lines_are n ok).1 in
    let lines = written_lines n six gs c.gates in
    let m : length (text_lines (gate_texts other_name gs)) ≡ length gs = ap length lines ∙ length-map gs (gate_text other_name) in
    let all : first_wrong n (text_lines (gate_texts other_name gs)) ≡ length gs = ap (first_wrong n) lines ∙ none_wrong n six gs c.gates in (
      rw (m, all) (good_lines n _ ok ∙ refusing_no _ 12 _ _ (le-ltb (length gs) (length gs) (omega arith)) ∙ refusing_no _ 6 _ _ (le-ltb 8000 (length gs) c.most) ∙ refusing_no _ 5 _ _ (le-ltb (room / 8) (length gs) fits)),
      written_gates n six gs c.gates,
    )

-- ---- what is accepted was written

accepted_same : (a b : ℕ) → accepted (a ∷ []) ≡ accepted (b ∷ []) → a ≡ b
accepted_same a b e = cc

-- what an accepted answer says of a text
pub record Legible (n : ℕ) (t : List ℕ) (room m : ℕ) : Type 0 where
  pub lines : lines_ok n ≡ true
  pub lines_good : Each (λ l. good n l ≡ true) (text_lines t)
  pub count : m ≡ length (text_lines t)
  pub few : m ≤ 8000
  pub fits : m ≤ room / 8

pub legible : (n : ℕ) (t : List ℕ) (room m : ℕ) → read_names_answer n t room ≡ accepted (m ∷ []) → Legible n t room m
unfolding read_names_answer on_lines on_text
legible n t room m e =
    let a = refusing_passed _ 1 0 _ (m ∷ []) e in
    let b = refusing_passed _ 12 _ _ (m ∷ []) a.1 in
    let c = refusing_passed _ 6 0 _ (m ∷ []) b.1 in
    let d = refusing_passed _ 5 _ _ (m ∷ []) c.1 in
    let s : m ≡ length (text_lines t) = sym (accepted_same (length (text_lines t)) m d.1) in
    record {
      lines = not-false (lines_ok n) a.0;
      lines_good = all_good n (text_lines t) (ltb-false (first_wrong n (text_lines t)) (length (text_lines t)) b.0);
      count = s;
      few = rw s (ltb-false 8000 (length (text_lines t)) c.0);
      fits = rw s (ltb-false (room / 8) (length (text_lines t)) d.0);
    }

pub gates_named_count : (n : ℕ) (t : List ℕ) → length (gates_named n t) ≡ length (text_lines t)
unfolding gates_named
gates_named_count n t = length-map (text_lines t) (gate_named n)

-- each accepted text is exactly what writing its gates gives
pub accepted_text : (n : ℕ) (t : List ℕ) (room m : ℕ) → read_names_answer n t room ≡ accepted (m ∷ []) → Cascade n (gates_named n t) × (gate_texts other_name (gates_named n t) ≡ t)
unfolding gates_named
accepted_text n t room m e =
    let a = legible n t room m e in
    let h = good_texts n (lines_are n a.lines).1 (text_lines t) a.lines_good in
    (record { gates = h.1; most = rw (length-map (text_lines t) (gate_named n), ← a.count) a.few }, h.0 ∙ lines_joined t)

-- ---- a loop that looks at line after line

abbrev wrong : ℕ → List (List ℕ) → ℕ → Bool
wrong n ls i = not (good n (get_or ls i []))

-- the first i lines are good
pub record Reading (n : ℕ) (ls : List (List ℕ)) (i : ℕ) : Type 0 where
  pub within : i ≤ length ls
  pub same : first (wrong n ls) i (length ls - i) ≡ first_wrong n ls

pub reading_start : (n : ℕ) (ls : List (List ℕ)) → Reading n ls 0
unfolding first_wrong
reading_start n ls = record { within = omega arith; same = rw sub-zero }

module _ (n : ℕ) (ls : List (List ℕ)) (i : ℕ) (c : Reading n ls i) where
  module _ (line : List ℕ) (lt : i < length ls) (is : line ≡ get_or ls i line) where
    line_is : line ≡ get_or ls i []
    line_is = is ∙ get_or_default ls i line [] lt

    pub reading_next : good n line ≡ true → Reading n ls (i + 1)
    reading_next ok = record { within = omega arith; same = first_more (wrong n ls) (length ls) i lt (ap not (ap (good n) (sym line_is) ∙ ok)) ∙ c.same }

    pub reading_bad : (t : List ℕ) (x : Answer) → ls ≡ text_lines t → good n line ≡ false → on_text n t x ≡ refused 12 i
    unfolding on_text
    reading_bad t x e bad =
        let here : first_wrong n ls ≡ i = sym c.same ∙ first_hit (wrong n ls) (length ls) i lt (ap not (ap (good n) (sym line_is) ∙ bad)) in
        rw (← e, here) (refusing_yes (ltb i (length ls)) 12 i x (lt-ltb i (length ls) lt))

  pub reading_end : (t : List ℕ) (x : Answer) → ls ≡ text_lines t → i ≡ length ls → on_text n t x ≡ x
  unfolding on_text
  reading_end t x e all =
      let none : first_wrong n ls ≡ i = sym c.same ∙ first_ends (wrong n ls) (length ls) i (omega (arith, all)) in
      rw (← e, none) (refusing_no (ltb i (length ls)) 12 i x (le-ltb i (length ls) (omega (arith, all))))

-- what looking has found
module _ (n : ℕ) (t : List ℕ) where
  pub found_lines : (m : ℕ) → on_text n t (accepted (length (text_lines t) ∷ [])) ≡ accepted (m ∷ []) → ((x : Answer) → on_text n t x ≡ x) × (m ≡ length (text_lines t))
  unfolding on_text
  found_lines m e =
      let p = refusing_passed (ltb (first_wrong n (text_lines t)) (length (text_lines t))) 12 (first_wrong n (text_lines t)) (accepted (length (text_lines t) ∷ [])) (m ∷ []) e in
      (λ x. refusing_no (ltb (first_wrong n (text_lines t)) (length (text_lines t))) 12 (first_wrong n (text_lines t)) x p.0, sym (accepted_same (length (text_lines t)) m p.1))

  pub found_wrong : (k p : ℕ) (vs : List ℕ) → on_text n t (accepted vs) ≡ refused k p → (x : Answer) → on_text n t x ≡ refused k p
  unfolding on_text refusing
  found_wrong k p vs e x = go (ltb (first_wrong n (text_lines t)) (length (text_lines t))) e
    where
      go : (b : Bool) → cond b (refused 12 (first_wrong n (text_lines t))) (accepted vs) ≡ refused k p → cond b (refused 12 (first_wrong n (text_lines t))) x ≡ refused k p
      go true e = e
      go false e = not_accepted k p vs (sym e)

-- ---- a loop that writes the gates of the lines

bytes_snoc : (gs : List Gate) (g : Gate) → bytes_of (gs ++ (g ∷ [])) ≡ bytes_of gs ++ record_of g
unfolding bytes_of
bytes_snoc [] g = append-nil (record_of g)
bytes_snoc (x ∷ gs) g = ap (λ (b : List ℕ). record_of x ++ b) (bytes_snoc gs g) ∙ sym (append_assoc (record_of x) (bytes_of gs) (record_of g))

-- those of the first i lines are stored
pub record Laying (ls : List (List ℕ)) (room₀ room : List ℕ) (to i : ℕ) : Type 0 where
  pub fits : 8 * length ls ≤ length room₀
  pub ahead : to ≡ 8 * i
  pub stored : room ≡ sets room₀ 0 (bytes_of (map guessed (take i ls)))

pub laying_start : (ls : List (List ℕ)) (room : List ℕ) → 8 * length ls ≤ length room → Laying ls room room 0 0
unfolding bytes_of
laying_start ls room fits = record { fits = fits; ahead = refl; stored = refl }

module _ (ls : List (List ℕ)) (room₀ room : List ℕ) (to i : ℕ) (y : Laying ls room₀ room to i) where
  pub laying_long : length room ≡ length room₀
  laying_long = ap length y.stored ∙ length-sets room₀ 0 (bytes_of (map guessed (take i ls)))

  pub laying_fits : i < length ls → to + 8 ≤ length room
  laying_fits lt = omega (arith, y.ahead, y.fits, laying_long)

  pub laying_next : (line now : List ℕ) → i < length ls → line ≡ get_or ls i line → now ≡ sets room to (record_of (guessed line)) → Laying ls room₀ now (to + 8) (i + 1)
  laying_next line now lt is e =
      let before : List Gate = map guessed (take i ls) in
      let bytes : bytes_of (map guessed (take (i + 1) ls)) ≡ bytes_of before ++ record_of (guessed line) =
      ap bytes_of (map_more guessed ls i line lt) ∙ rw (← is) (bytes_snoc before (guessed line)) in
      let long : 0 + length (bytes_of before) ≡ to = omega (arith, length_bytes before, length-map (take i ls) guessed, length-take-le i ls (omega (arith, lt)), y.ahead) in
      record {
        fits = y.fits;
        ahead = omega (arith, y.ahead);
        stored = e ∙ rw (y.stored, ← long) (sym (sets_append (bytes_of before) (record_of (guessed line)) room₀ 0)) ∙ ap (sets room₀ 0) (sym bytes);
      }

  pub laying_end : i ≡ length ls → room ≡ sets room₀ 0 (bytes_of (map guessed ls))
  laying_end all =
      let whole : take i ls ≡ ls = take_all i ls (omega (arith, all)) in
      y.stored ∙ ap (λ (l : List (List ℕ)). sets room₀ 0 (bytes_of (map guessed l))) whole

-- what was written of an accepted text
pub written_records : (n : ℕ) (t : List ℕ) (room m : ℕ) → read_names_answer n t room ≡ accepted (m ∷ [])
    → (bytes_of (map guessed (text_lines t)) ≡ bytes_of (gates_named n t)) × (length (bytes_of (gates_named n t)) ≡ 8 * m)
unfolding gates_named
written_records n t room m e =
    let a = legible n t room m e in
    (ap bytes_of (guessed_gates n (lines_are n a.lines).1 (text_lines t) a.lines_good), length_bytes (map (gate_named n) (text_lines t)) ∙ rw (length-map (text_lines t) (gate_named n), ← a.count))
