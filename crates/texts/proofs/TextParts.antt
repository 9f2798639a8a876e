-- The lines of gates by their parts, as they are stored: one turn of the loops over controls and gates, and the pieces of a line. Assumes nothing.
use Rattle.std.proofs.Common.{◌≡◌, refl, ap, ◌∙◌, List, [], ◌∷◌, ◌++◌, append_assoc, append-nil, ℕ, ◌+◌, ◌-◌, ◌/◌, ◌%◌, ◌≤◌, ◌<◌, zero-add, add-one}
use Rattle.ranges.specs.Ranges.{span}
use Rattle.ranges.proofs.Spans.{span_more, span_ends, span_snoc, map_span}
use Rattle.gates.specs.declared.Gate.{Gate}
use Rattle.gates.specs.Inner.Words.{gate_of}
use Rattle.gates.proofs.Bytes.{operator_word, target_word}
use Rattle.texts.specs.Texts.{joined}
use Rattle.texts.specs.GateTexts.{line_text, control_text, gate_text, gate_texts}

-- joined texts with one more behind them
joined_append : (xs : List (List ℕ)) (y : List ℕ) → joined (xs ++ (y ∷ [])) ≡ joined xs ++ y
unfolding joined
joined_append [] y = append-nil y
joined_append (x ∷ xs) y = ap (λ (r : List ℕ). x ++ r) (joined_append xs y) ∙ rw append_assoc

pub joined_snoc : (f : ℕ → List ℕ) (k : ℕ) → joined (span f 0 (k + 1)) ≡ joined (span f 0 k) ++ f k
joined_snoc f k = rw (add-one, span_snoc, zero-add) (joined_append (span f 0 k) (f k))

module _ (name : ℕ → List ℕ) where
  -- the gates' lines with one more behind them, and what is left of them at a turn of a loop
  pub gates_none : (f : ℕ → Gate) → gate_texts name (span f 0 0) ≡ []
  unfolding gate_texts joined span
  gates_none f = refl

  pub gates_snoc : (f : ℕ → Gate) (i : ℕ) → gate_texts name (span f 0 (i + 1)) ≡ gate_texts name (span f 0 i) ++ gate_text name (f i)
  unfolding gate_texts
  gates_snoc f i = rw (map_span (gate_text name) f 0 (i + 1), map_span (gate_text name) f 0 i) (joined_snoc (λ k. gate_text name (f k)) i)

  pub gates_more : (f : ℕ → Gate) (m i : ℕ) → i < m → gate_texts name (span f i (m - i)) ≡ gate_text name (f i) ++ gate_texts name (span f (i + 1) (m - (i + 1)))
  unfolding gate_texts joined
  gates_more f m i lt = rw (span_more f m i lt)

  pub gates_end : (f : ℕ → Gate) (m i : ℕ) → m ≤ i → gate_texts name (span f i (m - i)) ≡ []
  unfolding gate_texts joined
  gates_end f m i le = rw (span_ends f m i le)

  -- the line of a word's gate, piece by piece
  pub word_parts : (w : ℕ) → gate_text name (gate_of w) ≡ name (w % 256) ++ line_text (w / 256 % 256) ++ joined (span (control_text (gate_of w)) 0 6) ++ (10 ∷ [])
  unfolding gate_text
  word_parts w = rw (operator_word w, target_word w)
