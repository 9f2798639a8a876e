-- The end of a text, case by case: what stands then, and what the lent table holds. Assumes nothing.
use Rattle.std.proofs.Common.{◌≡◌, refl, sym, ap, ◌∙◌, Bool, true, false, not, List, [], ◌∷◌, ℕ, ◌^◌, ◌≤◌, ◌<◌, arith, eqb, length, lt-ltb, le-ltb, eq-eqb, ne_eqb}
use Rattle.ranges.proofs.Searches.{found}
use Rattle.card.specs.Card.{Answer, Answer.accepted, Answer.refused, place, refusing, on_lines, after, laid}
use Rattle.card.proofs.Cards.{refusing_yes, refusing_no, after_refused}
use Rattle.tables.specs.Tables.{too_large, repeated, first_large, first_repeated, on_table, check_table_answer}
use Rattle.tables.proofs.Accepts.{checked_refused, checked_accepted, accepted_permutation}
use Rattle.serials.specs.declared.Scan.{Scan}
use Rattle.serials.specs.declared.Serial.{Serial}
use Rattle.serials.specs.SerialTexts.{entries_answer}
use Rattle.serials.specs.Serials.{stopped, stopped_by, numbers_in, closing, ended, ended_table}

-- ---- the numbers as a table

place_le : (bad : Bool) (k q m : ℕ) (x : Answer) → q ≤ m → place x ≤ m → place (refusing bad k q x) ≤ m
unfolding refusing
place_le true k q m x le h = le
place_le false k q m x le h = h

module _ (n : ℕ) (xs : List ℕ) where
  -- a refused table is refused within it
  refused_within : place (check_table_answer n xs) ≤ length xs
  unfolding check_table_answer on_lines on_table first_large first_repeated
  refused_within =
      place_le _ 1 0 _ _ (omega arith)
      (place_le _ 2 0 _ _ (omega arith)
      (place_le _ 3 _ _ _ (omega (arith, (found (too_large (3 ^ n) xs) 0 (length xs)).within))
      (place_le _ 4 _ _ _ (omega (arith, (found (repeated xs) 0 (length xs)).within)) (omega arith))))

  pub refused_place : (k p : ℕ) → check_table_answer n xs ≡ refused k p → p ≤ length xs
  refused_place k p e = rw (ap place e) at refused_within

  module _ (room : ℕ) where
    pub numbers_refused : (k p : ℕ) → check_table_answer n xs ≡ refused k p → on_lines n (entries_answer n xs room) ≡ refused k p
    unfolding entries_answer
    numbers_refused k p e = checked_refused n xs k p e _

    module _ (e : check_table_answer n xs ≡ accepted []) where
      size : 3 ^ n ≡ length xs
      size = sym (accepted_permutation n xs e).1.size

      pub numbers_small : room < length xs → on_lines n (entries_answer n xs room) ≡ refused 5 (length xs)
      unfolding entries_answer
      numbers_small lt = checked_accepted n xs e _ ∙ rw size (refusing_yes _ 5 _ _ (lt-ltb room (length xs) lt))

      pub numbers_laid : length xs ≤ room → on_lines n (entries_answer n xs room) ≡ accepted (length xs ∷ [])
      unfolding entries_answer
      numbers_laid le = checked_accepted n xs e _ ∙ rw size (refusing_no _ 5 _ _ (le-ltb room (length xs) le))

-- ---- the end

module _ (r : Serial) (table : List ℕ) where
  abbrev s : Scan
  s = r.scan

  -- what the end makes of the reader and of the table
  abbrev pub Ends : Scan → List ℕ → Type 0
  Ends now held = (now ≡ (ended r (length table)).scan) × (held ≡ ended_table r table)

  pub end_over : (s.over ≡ 0 → ⊥) → Ends s table
  unfolding ended ended_table
  end_over ne = rw (ne_eqb s.over 0 ne) (refl, refl)

  module _ (on : s.over ≡ 0) where
    pub end_by : (a : Answer) → closing r (length table) ≡ a → Ends (stopped_by s a) (after a (laid (numbers_in r) table) table)
    unfolding ended ended_table
    end_by a e = rw (eq-eqb s.over 0 on, e) (refl, refl)

    refuses : (k p : ℕ) → closing r (length table) ≡ refused k p → Ends (stopped s k p) table
    refuses k p e = let ends = end_by (refused k p) e in (ends.0, sym (after_refused (refused k p) k p _ table refl) ∙ ends.1)

    pub end_early : (s.last ≡ 10 → ⊥) → Ends (stopped s 14 s.at) table
    end_early ne = refuses 14 s.at (unfold closing in refusing_yes _ 14 _ _ (rw (ne_eqb s.last 10 ne)))

    module _ (newline : s.last ≡ 10) where
      past : (x : Answer) → refusing (not (eqb s.last 10)) 14 s.at x ≡ x
      past x = refusing_no _ 14 _ x (rw (eq-eqb s.last 10 newline))

      pub end_many : length r.entries < s.count → Ends (stopped s 2 0) table
      end_many lt = refuses 2 0 (unfold closing in (past _ ∙ refusing_yes _ 2 _ _ (lt-ltb (length r.entries) s.count lt)))

      pub closing_numbers : s.count ≤ length r.entries → closing r (length table) ≡ on_lines s.lines (entries_answer s.lines (numbers_in r) (length table))
      unfolding closing
      closing_numbers le = past _ ∙ refusing_no _ 2 _ _ (le-ltb (length r.entries) s.count le)

      pub end_numbers : s.count ≤ length r.entries
          → Ends (stopped_by s (on_lines s.lines (entries_answer s.lines (numbers_in r) (length table))))
          (after (on_lines s.lines (entries_answer s.lines (numbers_in r) (length table))) (laid (numbers_in r) table) table)
      end_numbers le = end_by _ (closing_numbers le)
