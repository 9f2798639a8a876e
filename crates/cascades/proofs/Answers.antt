-- 1, 6 and 7 of bytes that should be records, whatever a good record is: what they say of the bytes, and that they do not depend on the answer behind them.
-- Assumes nothing.
use Rattle.std.proofs.Common.{◌≡◌, refl, sym, ◌∙◌, Bool, true, false, not, List, ℕ, ◌+◌, ◌-◌, ◌*◌, ◌%◌, ◌≤◌, ◌<◌, zero-add, arith, eqb, ltb, length, lt-ltb, le-ltb, le-leb, leb-true, eqb-true, eq-eqb, ltb-true, ltb-false}
use Rattle.std.proofs.Math.Nat.{sub-zero}
use Rattle.std.proofs.lemmas.Bool.{not-false}
use Rattle.ranges.specs.Ranges.{first}
use Rattle.ranges.proofs.Bools.{and_left, and_right, clash}
use Rattle.ranges.proofs.Searches.{Found, found, first_more, first_hit, first_ends}
use Rattle.card.specs.Card.{Answer, Answer.accepted, Answer.refused, refusing, on_lines}
use Rattle.card.proofs.Cards.{refusing_passed, good_lines}
use Rattle.card.proofs.Fronts.{Front, front, front_of, front_lines, front_refused}
use Rattle.cascades.specs.Cascades.{records}
use Rattle.cascades.specs.Inner.Checked.{WholeOf}
use Rattle.cascades.specs.Answers.{length_ok, bad_record, first_bad, on_records}

pub length_is : (l : ℕ) → length_ok l ≡ true → (l % 8 ≡ 0) × (l ≤ 64000)
unfolding length_ok
length_is l e = (eqb-true (l % 8) 0 (and_left (eqb (l % 8) 0) _ e), leb-true l (8 * 8000) (and_right (eqb (l % 8) 0) _ e))

-- ---- the search for a record that is no gate

-- a loop over m records has come to record i, and met good ones only
pub record Passing (good : ℕ → List ℕ → ℕ → Bool) (n : ℕ) (b : List ℕ) (m i : ℕ) : Type 0 where
  pub within : i ≤ m
  pub none : first (bad_record good n b) i (m - i) ≡ first (bad_record good n b) 0 m

module _ (good : ℕ → List ℕ → ℕ → Bool) (n : ℕ) (b : List ℕ) where
  bad_not : (i : ℕ) → good n b (8 * i) ≡ true → bad_record good n b i ≡ false
  unfolding bad_record
  bad_not i e = rw e

  bad_is : (i : ℕ) → good n b (8 * i) ≡ false → bad_record good n b i ≡ true
  unfolding bad_record
  bad_is i e = rw e

  good_is : (i : ℕ) → bad_record good n b i ≡ false → good n b (8 * i) ≡ true
  unfolding bad_record
  good_is i e = not-false (good n b (8 * i)) e

  pub passing_start : (m : ℕ) → Passing good n b m 0
  passing_start m = record { within = omega arith; none = rw sub-zero }

  pub passing_next : (m i : ℕ) → i < m → good n b (8 * i) ≡ true → Passing good n b m i → Passing good n b m (i + 1)
  passing_next m i lt e s = record { within = omega arith; none = first_more (bad_record good n b) m i lt (bad_not i e) ∙ s.none }

  pub passing_bad : (m i : ℕ) → i < m → good n b (8 * i) ≡ false → Passing good n b m i → i ≡ first (bad_record good n b) 0 m
  passing_bad m i lt e s = sym (first_hit (bad_record good n b) m i lt (bad_is i e)) ∙ s.none

  pub passing_all : (m i : ℕ) → m ≤ i → Passing good n b m i → m ≤ first (bad_record good n b) 0 m
  passing_all m i le s = omega (arith, le, sym s.none ∙ first_ends (bad_record good n b) m i le)

  -- ---- 1, 6 and 7, and else x

  module _ (x : Answer) where
    pub on_records_length : length_ok (length b) ≡ false → on_records good n b x ≡ refused 6 0
    unfolding on_records refusing
    on_records_length e = rw e

    pub on_records_at : (i : ℕ) → length_ok (length b) ≡ true → first_bad good n b ≡ i → i < records b → on_records good n b x ≡ refused 7 i
    unfolding on_records refusing
    on_records_at i e f lt = rw (e, f, lt-ltb i (records b) lt)

    pub on_records_none : length_ok (length b) ≡ true → records b ≤ first_bad good n b → on_records good n b x ≡ x
    unfolding on_records refusing
    on_records_none e le = rw (e, le-ltb (first_bad good n b) (records b) le)

    -- the loop meets a record that is no gate
    pub on_records_bad : (i : ℕ) → length_ok (length b) ≡ true → i < records b → good n b (8 * i) ≡ false → Passing good n b (records b) i → on_records good n b x ≡ refused 7 i
    unfolding first_bad
    on_records_bad i e lt r s = on_records_at i e (sym s.none ∙ first_hit (bad_record good n b) (records b) i lt (bad_is i r)) lt

    -- it meets none
    pub on_records_good : (i : ℕ) → length_ok (length b) ≡ true → records b ≤ i → Passing good n b (records b) i → on_records good n b x ≡ x
    unfolding first_bad
    on_records_good i e le s = on_records_none e (omega (arith, sym s.none ∙ first_ends (bad_record good n b) (records b) i le, s.within))

    -- bytes that are records, each a gate, are let through to x
    pub records_passed : (m : ℕ) → WholeOf good n b m → on_lines n (on_records good n b x) ≡ x
    unfolding length_ok first_bad
    records_passed m w =
        let whole : length b % 8 ≡ 0 = omega (arith, w.size) in
        let small : length b ≤ 8 * 8000 = omega (arith, w.size, w.most) in
        let count : records b ≡ m = omega (arith, w.size) in
        good_lines n (on_records good n b x) w.lines
        ∙ (on_records_none (rw (eq-eqb (length b % 8) 0 whole, le-leb (length b) (8 * 8000) small))
        (never (first (bad_record good n b) 0 (records b)) (ltb (first (bad_record good n b) 0 (records b)) (records b)) refl (found (bad_record good n b) 0 (records b)) (λ i lt. bad_not i (w.each i (omega arith)))))
      where
        never : (r : ℕ) (t : Bool) → ltb r (records b) ≡ t → Found (bad_record good n b) 0 (0 + records b) r → ((i : ℕ) → i < records b → bad_record good n b i ≡ false) → records b ≤ r
        never r true e f h = clash (bad_record good n b r) (f.hit (omega (arith, ltb-true r (records b) e))) (h r (ltb-true r (records b) e))
        never r false e f h = ltb-false r (records b) e

  -- ---- what an answer behind 1, 6 and 7 says

  pub front_records : Front (on_records good n b)
  unfolding on_records
  front_records =
      front_of (refusing (not (length_ok (length b))) 6 0) (refusing (ltb (first_bad good n b) (records b)) 7 (first_bad good n b))
      (front (not (length_ok (length b))) 6 0) (front (ltb (first_bad good n b) (records b)) 7 (first_bad good n b))

  -- accepted: the bytes are records, each a good one, and what stands behind accepts
  pub behind_accepted : (x : Answer) (vs : List ℕ) → on_lines n (on_records good n b x) ≡ accepted vs → WholeOf good n b (records b) × (x ≡ accepted vs)
  unfolding on_lines on_records
  behind_accepted x vs e =
      let lines = refusing_passed _ 1 0 _ vs e in
      let size = refusing_passed _ 6 0 _ vs lines.1 in
      let each = refusing_passed _ 7 (first_bad good n b) x vs size.1 in
      let l = length_is (length b) (not-false _ size.0) in
      let f : Found (bad_record good n b) 0 (records b) (first_bad good n b) = unfold first_bad in (rw (zero-add (records b)) at (found (bad_record good n b) 0 (records b))) in (
        record {
          lines = not-false _ lines.0;
          size = omega arith;
          most = omega arith;
          each = λ i lt. good_is i (f.before i (omega arith) (omega (arith, ltb-false (first_bad good n b) (records b) each.0)));
        },
        each.1,
      )

  -- refused, where it could accept: so is every other answer behind them
  pub behind_refused : (vs : List ℕ) (k p : ℕ) (x : Answer) → on_lines n (on_records good n b (accepted vs)) ≡ refused k p → on_lines n (on_records good n b x) ≡ refused k p
  behind_refused vs k p x e =
      front_refused (λ y. on_lines n (on_records good n b y)) (front_of (on_lines n) (on_records good n b) (front_lines n) front_records) vs k p e x
