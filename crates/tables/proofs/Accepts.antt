-- Which tables are accepted. `table_accepted` says what an answer behind 2, 3 and 4 tells, `checked_refused` and `checked_accepted` what a check leaves to the calls that go on,
-- and `accepted_iff` that a table is accepted exactly if the lines are 1 to 6 and it is a permutation of the patterns.
-- It rests on what the first entry with a property says of those before it. Assumes nothing.
use Rattle.std.proofs.Common.{◌≡◌, sym, ap, ◌∙◌, ◌⊎◌, ⊎_elim, ◌↔◌, Bool, true, false, not, List, [], ℕ, ◌^◌, ◌≤◌, ◌<◌, arith, eqb, ltb, length, get_or, eqb-true, eq-eqb, ne_eqb, ltb-true, ltb-false, lt-ltb, le-ltb, leb-false, Some, None, position, leb}
use Rattle.std.proofs.lemmas.Bool.{eqb-false, lt-leb, not-false}
use Rattle.ranges.specs.Ranges.{first}
use Rattle.ranges.proofs.Bools.{decide, clash}
use Rattle.ranges.proofs.Counts.{lt_or_le}
use Rattle.ranges.proofs.Tests.{some_none, some_not}
use Rattle.ranges.specs.Inner.Places.{found_at}
use Rattle.ranges.proofs.Searches.{found}
use Rattle.ranges.proofs.Places.{position_first, found_some, found_none}
use Rattle.card.specs.Card.{Answer, Answer.accepted, Answer.refused, refusing, lines_ok, on_lines}
use Rattle.card.proofs.Cards.{refusing_yes, refusing_no, refusing_passed, good_lines}
use Rattle.card.proofs.Fronts.{Front, front, front_of, front_lines, front_refused}
use Rattle.tables.specs.Tables.{too_large, repeated, first_large, first_repeated, on_table, check_table_answer}
use Rattle.tables.specs.Permutations.{Permutation}

-- ---- the search for the first finds nothing exactly if no number has the property

past : (f : ℕ → Bool) (m : ℕ) → ltb (first f 0 m) m ≡ false → (k : ℕ) → k < m → f k ≡ false
past f m e k lt = (found f 0 m).before k (omega arith) (omega (arith, ltb-false (first f 0 m) m e))

none : (f : ℕ → Bool) (m : ℕ) → ((k : ℕ) → k < m → f k ≡ false) → ltb (first f 0 m) m ≡ false
none f m h =
    ⊎_elim (λ (e : ltb (first f 0 m) m ≡ true). let l = ltb-true (first f 0 m) m e in clash (f (first f 0 m)) ((found f 0 m).hit (omega arith)) (h _ l))
    (λ (e : ltb (first f 0 m) m ≡ false). e) (decide (ltb (first f 0 m) m))

-- ---- the cases of `on_table`

module _ (m : ℕ) (t : List ℕ) where
  module _ (x : Answer) where
    pub on_table_size : (length t ≡ m → ⊥) → on_table m t x ≡ refused 2 0
    unfolding on_table
    on_table_size ne = refusing_yes _ 2 0 _ (ap not (ne_eqb (length t) m ne))

    module _ (size : length t ≡ m) where
      sized : (y : Answer) → refusing (not (eqb (length t) m)) 2 0 y ≡ y
      sized y = refusing_no _ 2 0 y (ap not (eq-eqb (length t) m size))

      pub on_table_large : ltb (first_large m t) (length t) ≡ true → on_table m t x ≡ refused 3 (first_large m t)
      unfolding on_table
      on_table_large e = sized _ ∙ refusing_yes _ 3 _ _ e

      pub on_table_repeated : ltb (first_large m t) (length t) ≡ false → ltb (first_repeated t) (length t) ≡ true → on_table m t x ≡ refused 4 (first_repeated t)
      unfolding on_table
      on_table_repeated e f = sized _ ∙ refusing_no _ 3 _ _ e ∙ refusing_yes _ 4 _ x f

      pub on_table_none : ltb (first_large m t) (length t) ≡ false → ltb (first_repeated t) (length t) ≡ false → on_table m t x ≡ x
      unfolding on_table
      on_table_none e f = sized _ ∙ refusing_no _ 3 _ _ e ∙ refusing_no _ 4 _ x f

  -- where no entry is too large or repeated, the table is a permutation
  pub entries_below : ltb (first_large m t) (length t) ≡ false → (p : ℕ) → p < length t → get_or t p 0 < m
  unfolding first_large too_large
  entries_below e p lt = leb-false m (get_or t p 0) (past (too_large m t) (length t) e p lt)

  earlier_differ : ltb (first_repeated t) (length t) ≡ false → (p q : ℕ) → p < q → q < length t → get_or t p 0 ≡ get_or t q 0 → ⊥
  unfolding first_repeated repeated
  earlier_differ e p q lt lq =
      eqb-false (get_or t p 0) (get_or t q 0)
      (some_none (λ j. eqb (get_or t j 0) (get_or t q 0)) 0 q (past (repeated t) (length t) e q lq) p (omega arith) (omega arith))

  permutation_of : length t ≡ m → ltb (first_large m t) (length t) ≡ false → ltb (first_repeated t) (length t) ≡ false → Permutation m t
  permutation_of size e f =
      record { size = size; within = λ p lp. entries_below e p (omega arith); apart = λ p q lp lq same. apart p q lp lq same (lt_or_le p q) (lt_or_le q p) }
    where
      apart : (p q : ℕ) → p < m → q < m → get_or t p 0 ≡ get_or t q 0 → (p < q) ⊎ (q ≤ p) → (q < p) ⊎ (p ≤ q) → p ≡ q
      apart p q lp lq same (◌⊎◌.inl l) d = absurd (earlier_differ f p q l (omega arith) same)
      apart p q lp lq same (◌⊎◌.inr l) (◌⊎◌.inl g) = absurd (earlier_differ f q p g (omega arith) (sym same))
      apart p q lp lq same (◌⊎◌.inr l) (◌⊎◌.inr g) = omega arith

  -- and the other way round
  none_large : Permutation m t → ltb (first_large m t) (length t) ≡ false
  unfolding first_large too_large
  none_large w = none (too_large m t) (length t) (λ p lt. lt-leb m (get_or t p 0) (w.within p (omega (arith, w.size))))

  none_repeated : Permutation m t → ltb (first_repeated t) (length t) ≡ false
  unfolding first_repeated repeated
  none_repeated w =
      none (repeated t) (length t)
      (λ q lq.
      some_not _ 0 q (λ p le lp. ne_eqb (get_or t p 0) (get_or t q 0) (λ e. let same = w.apart p q (omega (arith, w.size)) (omega (arith, w.size)) e in omega arith)))

  -- a permutation is passed on
  pub on_table_permutation : Permutation m t → (x : Answer) → on_table m t x ≡ x
  on_table_permutation w x = on_table_none x w.size (none_large w) (none_repeated w)

  pub front_table : Front (on_table m t)
  unfolding on_table
  front_table =
      front_of (refusing (not (eqb (length t) m)) 2 0) _ (front (not (eqb (length t) m)) 2 0)
      (front_of (refusing (ltb (first_large m t) (length t)) 3 (first_large m t)) _ (front (ltb (first_large m t) (length t)) 3 (first_large m t))
      (front (ltb (first_repeated t) (length t)) 4 (first_repeated t)))

  -- accepted: the table is a permutation, and what stands behind 2, 3 and 4 accepts
  pub table_accepted : (x : Answer) (vs : List ℕ) → on_table m t x ≡ accepted vs → Permutation m t × (x ≡ accepted vs)
  unfolding on_table
  table_accepted x vs e =
      let size = refusing_passed _ 2 0 _ vs e in
      let large = refusing_passed _ 3 _ _ vs size.1 in
      let repeats = refusing_passed _ 4 _ x vs large.1 in
      (permutation_of (eqb-true (length t) m (not-false _ size.0)) large.0 repeats.0, repeats.1)

  -- ---- the cases as the check's code meets them

  pub check_size : (length t ≡ m → ⊥) → refused 2 0 ≡ on_table m t (accepted [])
  check_size ne = sym (on_table_size (accepted []) ne)

  -- what the search for an entry that is too large has found
  pub large_at : position (λ x. leb m x) t ≡ found_at (length t) (first_large m t)
  unfolding first_large too_large
  large_at = position_first (leb m) 0 t

  module _ (size : length t ≡ m) where
    pub check_large : (i : ℕ) → Some i ≡ position (λ x. leb m x) t → refused 3 i ≡ on_table m t (accepted [])
    check_large i e =
        let f = found_some _ _ i (e ∙ large_at) in
        ap (refused 3) f.0 ∙ sym (on_table_large (accepted []) size (lt-ltb (first_large m t) (length t) f.1))

    module _ (small : None ≡ position (λ x. leb m x) t) where
      few : ltb (first_large m t) (length t) ≡ false
      few = le-ltb (first_large m t) (length t) (found_none _ _ (small ∙ large_at))

      pub check_below : (p : ℕ) → p < length t → get_or t p 0 < m
      check_below = entries_below few

      pub check_repeated : (j : ℕ) → Some j ≡ found_at (length t) (first_repeated t) → refused 4 j ≡ on_table m t (accepted [])
      check_repeated j e =
          let f = found_some _ _ j e in
          ap (refused 4) f.0 ∙ sym (on_table_repeated (accepted []) size few (lt-ltb (first_repeated t) (length t) f.1))

      module _ (apart : None ≡ found_at (length t) (first_repeated t)) where
        none_repeats : ltb (first_repeated t) (length t) ≡ false
        none_repeats = le-ltb (first_repeated t) (length t) (found_none _ _ apart)

        pub check_none : accepted [] ≡ on_table m t (accepted [])
        check_none = sym (on_table_none (accepted []) size few none_repeats)

        pub check_permutation : Permutation m t
        check_permutation = permutation_of size few none_repeats

-- ---- with refusal 1, on n lines

module _ (n : ℕ) (t : List ℕ) where
  -- what a check refuses, every call on the table refuses alike
  pub checked_refused : (k p : ℕ) → check_table_answer n t ≡ refused k p → (x : Answer) → on_lines n (on_table (3 ^ n) t x) ≡ refused k p
  unfolding check_table_answer
  checked_refused k p e x =
      front_refused (λ y. on_lines n (on_table (3 ^ n) t y)) (front_of (on_lines n) (on_table (3 ^ n) t) (front_lines n) (front_table (3 ^ n) t)) [] k p e x

  pub accepted_permutation : check_table_answer n t ≡ accepted [] → (lines_ok n ≡ true) × Permutation (3 ^ n) t
  unfolding check_table_answer on_lines
  accepted_permutation e =
      let lines = refusing_passed _ 1 0 _ [] e in
      (not-false _ lines.0, (table_accepted (3 ^ n) t (accepted []) [] lines.1).0)

  pub permutation_passed : lines_ok n ≡ true → Permutation (3 ^ n) t → (x : Answer) → on_lines n (on_table (3 ^ n) t x) ≡ x
  permutation_passed ok w x = good_lines n _ ok ∙ on_table_permutation (3 ^ n) t w x

  -- what a check accepts, every call on the table goes on with
  pub checked_accepted : check_table_answer n t ≡ accepted [] → (x : Answer) → on_lines n (on_table (3 ^ n) t x) ≡ x
  checked_accepted e = let w = accepted_permutation e in permutation_passed w.0 w.1

  -- accepted exactly if the lines are 1 to 6 and the table is a permutation
  pub accepted_iff : (check_table_answer n t ≡ accepted []) ↔ ((lines_ok n ≡ true) × Permutation (3 ^ n) t)
  unfolding check_table_answer
  accepted_iff = (accepted_permutation, λ w. permutation_passed w.0 w.1 (accepted []))
