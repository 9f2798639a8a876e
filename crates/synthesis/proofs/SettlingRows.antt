-- A row as the code goes through it, a turn for each gate: `Settling` is its invariant, and a turn takes it to the line after the one on which a gate
-- was added (`settling_turn`). Assumes nothing.
use Rattle.std.proofs.Common.{◌≡◌, refl, sym, ap, ◌∙◌, List, [], ◌∷◌, map, ℕ, ◌+◌, ◌-◌, ◌^◌, ◌≤◌, ◌<◌, le_refl, arith, bit_and, bit_xor, length, get_or, drop}
use Rattle.ranges.proofs.Lists.{map_at}
use Rattle.digits.specs.Digits.{digit, put}
use Rattle.digits.proofs.Digits.{digit_lt, digit_put_same, digit_put_other, put_lt}
use Rattle.digits.proofs.Bits.{digit_of_zero}
use Rattle.digits.proofs.Sizes.{three_pos}
use Rattle.gates.specs.declared.Gate.{Gate}
use Rattle.gates.specs.Records.{record_of}
use Rattle.gates.specs.Inner.Words.{bytes_in}
use Rattle.procedure.specs.Procedure.{State}
use Rattle.procedure.specs.Inner.Exchanges.{exchanged}
use Rattle.procedure.proofs.Swaps.{at_one}
use Rattle.synthesis.specs.Synthesis.{gate_for}
use Rattle.gates.specs.Inner.Lines.{LowestLine}
use Rattle.synthesis.specs.Inner.TableSteps.{step_from, row_from, Present, TableReached, full_controls, WordsLaid, RowSettled}
use Rattle.synthesis.proofs.Controls.{full_line}
use Rattle.synthesis.proofs.DifferingLines.{ones, differing_lines, differing_lines_past, differing_lines_same, same_digits, differing_lines_less, without_first}
use Rattle.synthesis.proofs.Layings.{laid_none, word_before, laid_more}
use Rattle.synthesis.proofs.Moves.{still, exchanged_there, step_gate, row_at_start, row_skip, row_found, row_more, row_room}

-- the lines below k are done: the table is that of the procedure, and its gates' words are laid; a is the entry, from line k up as it came
pub record Settling (n i from : ℕ) (t₀ t : List ℕ) (end e : ℕ) (ws₀ ws : List ℕ) (a left : ℕ) : Type 0 where
  pub k : ℕ
  pub within : k ≤ n
  pub at : TableReached n (row_from n i k t₀) t
  pub laid : WordsLaid (row_from n i k t₀).found e end ws₀ ws
  pub entry : a ≡ get_or t i 0
  pub done : (j : ℕ) → j < k → digit 3 j a ≡ digit 3 j i
  pub ahead : (j : ℕ) → k ≤ j → j < n → digit 3 j a ≡ digit 4 j from
  pub lines : left ≡ differing_lines n a i

pub settling_start : (n i a from to e : ℕ) (t ws : List ℕ) → Present n t → a ≡ get_or t i 0 → from ≡ full_controls n a → to ≡ full_controls n i
    → Settling n i from t t e e ws ws a (ones (bit_xor from to))
settling_start n i a from to e t ws w ea ef et =
    let at-start = row_at_start n i t in
    record {
      k = 0;
      within = omega arith;
      at = still _ _ _ w at-start;
      laid = rw at-start (laid_none e ws);
      entry = ea;
      done = λ j lt. absurd (omega arith);
      ahead = λ j le lt. rw ef (sym (full_line n a w.lines j lt));
      lines = rw (ef, et);
    }

module _ {n i from : ℕ} {t₀ t : List ℕ} {end e : ℕ} {ws₀ ws : List ℕ} {a left : ℕ} (g : Settling n i from t₀ t end e ws₀ ws a left) where
  pub entry_below : i < 3 ^ n → a < 3 ^ n
  entry_below below = rw g.entry (g.at.present.within i below)

  -- lines that do not differ are passed over
  skip : (k : ℕ) → g.k ≤ k → k ≤ n → ((j : ℕ) → j < k → digit 4 j left ≡ 0) → row_from n i k t₀ ≡ row_from n i g.k t₀
  skip k le kn none =
      row_skip n i g.k k t₀ le
      (λ j lo lt. rw (← g.at.table, ← g.entry) (same_digits n a i g.at.present.lines j (omega arith) (rw g.lines at (none j lt))))

  pub settling_end : left ≡ 0 → RowSettled n i t₀ t e end ws₀ ws
  settling_end z = let all = skip n g.within (le_refl n) (λ j lt. rw z (digit_of_zero 4 j (omega arith))) in record { at = rw all g.at; laid = rw all g.laid }

  module _ {k : ℕ} (w : LowestLine left k) (below : i < 3 ^ n) where
    pub line : k < n
    line = grind (arith, w.some, w.line, ap (digit 4 k) g.lines, differing_lines_past n a i k)

    from_here : g.k ≤ k
    from_here = grind (arith, w.some, w.line, ap (digit 4 k) g.lines, g.done k, differing_lines_same n a i k w.line)

    pub digit_came : digit 4 k from ≡ digit 3 k a
    digit_came = sym (g.ahead k from_here line)

    differs : digit 3 k a ≡ digit 3 k i → ⊥
    differs e = omega (arith, w.some, ap (digit 4 k) g.lines, differing_lines_same n a i k w.line e)

    at_line : TableReached n (row_from n i k t₀) t
    at_line = rw (skip k from_here (omega (arith, line)) w.none_before) g.at

    laid_line : WordsLaid (row_from n i k t₀).found e end ws₀ ws
    laid_line = rw (skip k from_here (omega (arith, line)) w.none_before) g.laid

    step : step_from n i k t ≡ record { table = map (exchanged a (put 3 k a (digit 3 k i))) t; found = gate_for n k a (digit 3 k i) ∷ [] }
    step = step_gate n i k a (digit 3 k i) t g.at.present below line g.entry refl differs

    moved_lt : put 3 k a (digit 3 k i) < 3 ^ n
    moved_lt = put_lt 3 n k a (digit 3 k i) (entry_below below) line (digit_lt 3 k i three_pos)

    pub some_room : length (row_from n i n t₀).found ≤ end → 0 < e
    some_room fits = omega (arith, ap (λ (z : State Gate). length z.found) step, row_room n i k t₀ t at_line 0 end line (omega arith), laid_line.count)

    pub settling_turn : (d b word left' e' : ℕ) (t' ws' : List ℕ) → d ≡ digit 3 k i → b ≡ put 3 k a d → t' ≡ map (exchanged a b) t
        → bytes_in word ≡ record_of (gate_for n k a d) → e' + 1 ≡ e → length ws' ≡ length ws → drop e' ws' ≡ word ∷ drop e ws → left' ≡ bit_and left (left - 1)
        → Settling n i from t₀ t' end e' ws₀ ws' b left'
    settling_turn d b word left' e' t' ws' ed eb et is next same ew el =
        let b_is : b ≡ put 3 k a (digit 3 k i) = eb ∙ ap (put 3 k a) ed in
        let there : t' ≡ map (exchanged a (put 3 k a (digit 3 k i))) t = et ∙ ap (λ (x : ℕ). map (exchanged a x) t) b_is in
        record {
          k = k + 1;
          within = omega (arith, line);
          at =
              row_more n i k t₀ t at_line t'
              (exchanged_there n t t' a (put 3 k a (digit 3 k i)) _ g.at.present (entry_below below) moved_lt there
              (sym (ap (λ (z : State Gate). z.table) step)));
          laid =
              rw (row_found n i k t₀ t at_line, step)
              (laid_more _ (gate_for n k a (digit 3 k i) ∷ []) e e' end ws₀ ws ws' laid_line (word_before _ word e' e ws ws' (rw ed at is) next same ew));
          entry =
              sym (ap (λ (x : List ℕ). get_or x i 0) et ∙ map_at (exchanged a b) t i 0 0 (omega (arith, g.at.present.size))
              ∙ rw (← g.entry) (at_one a b));
          done = λ j lt. rw b_is (below_next j (omega arith));
          ahead =
              λ j lo lt. rw b_is (digit_put_other 3 j k a (digit 3 k i) (digit_lt 3 k i three_pos) (λ q. omega arith)
              ∙ g.ahead j (omega (arith, from_here)) lt);
          lines = el ∙ rw (g.lines, b_is) (without_first n a i k (rw g.lines at w) ∙ differing_lines_less n a i k w.line);
        }
      where
        below_next : (j : ℕ) → j ≤ k → digit 3 j (put 3 k a (digit 3 k i)) ≡ digit 3 j i
        below_next j jk =
            let lt = digit_lt 3 k i three_pos in
            let before = w.none_before j in
            let same = same_digits n a i g.at.present.lines j (omega (arith, line)) in
            grind (arith, g.lines, digit_put_same 3 k a (digit 3 k i) lt, digit_put_other 3 j k a (digit 3 k i) lt)
