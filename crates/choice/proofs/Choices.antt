-- The choice between two cascades: two tables differ first where the cascades do, and 11 is given exactly where the tables are not the same; what the
-- prices of the two say of the whole answer; and what is handed back. It rests on the laws of 1, 6 and 7 of `cascades`. Assumes nothing.
use Rattle.std.proofs.Common.{◌≡◌, refl, sym, ap, ◌∙◌, Bool, cond, not, List, [], ◌∷◌, ℕ, ◌^◌, ◌≤◌, ◌<◌, eqb, ltb, length, get_or, Bor, lt-ltb, le-ltb, eqb-true, arith}
use Rattle.std.specs.List.{position, zip}
use Rattle.std.proofs.Math.Nat.{zero-add}
use Rattle.std.proofs.lemmas.Bool.{eqb-false, not-true, not-false}
use Rattle.std.proofs.lemmas.Slice.Zip.{length-zip, get_or-zip}
use Rattle.ranges.specs.Inner.Places.{found_at}
use Rattle.ranges.proofs.Searches.{Found, found, first_ext}
use Rattle.ranges.proofs.Places.{position_first}
use Rattle.ranges.proofs.Spans.{length_span, span_at, span_ext}
use Rattle.card.specs.Card.{Answer, Answer.accepted, Answer.refused}
use Rattle.card.proofs.Cards.{good_lines, refusing_yes, refusing_no}
use Rattle.gates.specs.declared.Gate.{Gate}
use Rattle.cascades.specs.Cascades.{records, gates_of, ran, table_for, table_of}
use Rattle.cascades.specs.Inner.Checked.{Whole}
use Rattle.cascades.specs.Answers.{on_cascade}
use Rattle.cascades.proofs.Checks.{passed}
use Rattle.boards.specs.Boards.{on_board}
use Rattle.boards.proofs.Boards.{board_passed}
use Rattle.pricing.specs.Prices.{price_answer}
use Rattle.pricing.proofs.PriceAnswers.{price_accepted, price_refused}
use Rattle.choice.specs.Choice.{first_difference, second_wins, choose_answer, Handed}

-- ---- the first difference

table_entry : (n : ℕ) (gs : List Gate) (p : ℕ) → p < 3 ^ n → get_or (table_of n gs) p 0 ≡ ran gs p
unfolding table_for
table_entry n gs p lt = rw (zero-add p) at (span_at (ran gs) 0 (3 ^ n) p 0 lt)

-- two tables differ first where the gates do
pub first_unlike_lem : (n : ℕ) (gs hs : List Gate) → position (λ (z : ℕ × ℕ). not (eqb z.0 z.1)) (zip (table_of n gs) (table_of n hs)) ≡ found_at (3 ^ n) (first_difference n gs hs)
unfolding first_difference
first_unlike_lem n gs hs =
    position_first (λ (z : ℕ × ℕ). not (eqb z.0 z.1)) (0, 0) (zip (table_of n gs) (table_of n hs))
    ∙ rw pairs
    (ap (found_at (3 ^ n))
    (first_ext (λ p. let z = get_or (zip (table_of n gs) (table_of n hs)) p (0, 0) in not (eqb z.0 z.1)) (λ p. not (eqb (ran gs p) (ran hs p))) 0 (3 ^ n)
    (λ p le lt. rw (get_or-zip (table_of n gs) (table_of n hs) p (0, 0) (omega (arith, long gs)) (omega (arith, long hs)), table_entry n gs p (omega arith), table_entry n hs p (omega arith)))))
  where
    long : (gs : List Gate) → length (table_of n gs) ≡ 3 ^ n
    long gs = unfold table_for in length_span (ran gs) 0 (3 ^ n)

    pairs : length (zip (table_of n gs) (table_of n hs)) ≡ 3 ^ n
    pairs = length-zip (table_of n gs) (table_of n hs) ∙ rw (long gs, long hs) (omega arith)

-- and there is such an input exactly where the tables are not the same
module _ (n : ℕ) (gs hs : List Gate) where
  searched : Found (λ p. not (eqb (ran gs p) (ran hs p))) 0 (3 ^ n) (first_difference n gs hs)
  unfolding first_difference
  searched = rw (zero-add (3 ^ n)) at (found (λ p. not (eqb (ran gs p) (ran hs p))) 0 (3 ^ n))

  pub same_tables : 3 ^ n ≤ first_difference n gs hs → table_of n gs ≡ table_of n hs
  unfolding table_for
  same_tables le =
      span_ext (ran gs) (ran hs) 0 (3 ^ n)
      (λ p from lt. eqb-true (ran gs p) (ran hs p) (not-false (eqb (ran gs p) (ran hs p)) (searched.before p from (omega arith))))

  pub other_tables : first_difference n gs hs < 3 ^ n → table_of n gs ≡ table_of n hs → ⊥
  other_tables lt e =
      eqb-false (ran gs (first_difference n gs hs)) (ran hs (first_difference n gs hs)) (not-true (eqb (ran gs (first_difference n gs hs)) (ran hs (first_difference n gs hs))) (searched.hit lt))
      (sym (table_entry n gs (first_difference n gs hs) lt) ∙ rw e (table_entry n hs (first_difference n gs hs) lt))

-- ---- the answer, by the prices of the two

-- a cascade that was checked is let through
on_cascade_passed : (n : ℕ) (b : List ℕ) (m : ℕ) (x : Answer) → Whole n b m → on_cascade n b x ≡ x
on_cascade_passed n b m x w = sym (good_lines n (on_cascade n b x) w.lines) ∙ passed n b x m w

module _ (n v s : ℕ) (b c : List ℕ) where
  -- the first is refused
  pub choose_first : (k p : ℕ) → price_answer n v s b ≡ refused k p → choose_answer n v s b c ≡ refused k p
  unfolding choose_answer
  choose_first k p e = price_refused n b v s k p _ e

  module _ (vs : List ℕ) (e : price_answer n v s b ≡ accepted vs) where
    first_through : (x : Answer) → on_cascade n b x ≡ x
    first_through x = on_cascade_passed n b (records b) x (price_accepted n b v s vs e).whole

    -- the second is
    pub choose_second : (k p : ℕ) → price_answer n v s c ≡ refused k p → choose_answer n v s b c ≡ refused k p
    unfolding choose_answer
    choose_second k p f = ap (on_board n v s) (first_through _) ∙ price_refused n c v s k p _ f

    -- neither is: 11 decides, and then cost and length
    module _ (ws : List ℕ) (f : price_answer n v s c ≡ accepted ws) where
      let_through : (x : Answer) → on_board n v s (on_cascade n b (on_cascade n c x)) ≡ x
      let_through x =
          let two = price_accepted n c v s ws f in
          board_passed n v s two.board _ ∙ first_through _ ∙ on_cascade_passed n c (records c) x two.whole

      pub choose_differ : (d : ℕ) → d ≡ first_difference n (gates_of b) (gates_of c) → d < 3 ^ n → choose_answer n v s b c ≡ refused 11 d
      unfolding choose_answer
      choose_differ d q lt = let_through _ ∙ rw (← q) (refusing_yes (ltb d (3 ^ n)) 11 d _ (lt-ltb d (3 ^ n) lt))

      pub choose_same : (d : ℕ) (t : Bool) → d ≡ first_difference n (gates_of b) (gates_of c) → 3 ^ n ≤ d → second_wins v s (gates_of b) (gates_of c) ≡ t
          → choose_answer n v s b c ≡ accepted (cond t 2 1 ∷ [])
      unfolding choose_answer
      choose_same d t q le w = let_through _ ∙ rw (← q, w) (refusing_no (ltb d (3 ^ n)) 11 d _ (le-ltb d (3 ^ n) le))

-- ---- what is handed back

module _ (a : Answer) (one two : Bor (List ℕ)) where
  pub handed_first : a ≡ accepted (1 ∷ []) → Handed a one two one
  handed_first e =
      record {
        the_first = λ f. refl;
        the_second = λ f. let z : ◌≡◌ {A = ℕ} 1 2 = cc in absurd (omega arith);
        none = λ k p f. let z : ◌≡◌ {A = ℕ} 0 1 = cc in absurd (omega arith);
      }

  pub handed_second : a ≡ accepted (2 ∷ []) → Handed a one two two
  handed_second e =
      record {
        the_first = λ f. let z : ◌≡◌ {A = ℕ} 1 2 = cc in absurd (omega arith);
        the_second = λ f. refl;
        none = λ k p f. let z : ◌≡◌ {A = ℕ} 0 1 = cc in absurd (omega arith);
      }

  pub handed_none : (k p : ℕ) (r : Bor (List ℕ)) → a ≡ refused k p → r.ref_ptr ≡ one.ref_ptr → r.now ≡ [] → Handed a one two r
  handed_none k p r e f g =
      record {
        the_first = λ q. let z : ◌≡◌ {A = ℕ} 0 1 = cc in absurd (omega arith);
        the_second = λ q. let z : ◌≡◌ {A = ℕ} 0 1 = cc in absurd (omega arith);
        none = λ k' p' q. (f, g);
      }
