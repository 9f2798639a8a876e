-- Demand 1, the places. Where a row of the card names the first of something, its place is the least index with the property, in the property's own words:
-- no search of a call has to be believed for that. Assumes nothing.
use Prim.Native.Nat.{ℕ, zero, suc, ◌+◌, ◌*◌, ◌^◌, ◌≤◌, ◌<◌}
use mathlib.Core.Path.{◌≡◌, refl, sym}
use mathlib.Core.Logic.{⊎_elim, ◌↔◌}
use mathlib.Core.Bool.{Bool, true, false, cond, not, ◌||◌}
use mathlib.Core.List.{List, []}
use native.Mathlib.Omega.{arith}
use lib.Dec.{eqb, leb, ltb}
use lib.ListN.{length, get_or, take}
use borrow.Author.Tests.{eqb-true, eqb-false, eq-eqb, leb-true, le-leb, ltb-true, ltb-false, not-true, not-false}
use Rattle.ranges.specs.Ranges.{first}
use Rattle.ranges.proofs.Bools.{and_left, and_right, clash}
use Rattle.ranges.proofs.Counts.{lt_or_le}
use Rattle.ranges.proofs.Tests.{some_hit}
use Rattle.ranges.proofs.Searches.{Found, found, some_first}
use Rattle.card.specs.Card.{lines_ok}
use Rattle.card.proofs.Cards.{lines_are}
use Rattle.gates.specs.declared.Gate.{Gate}
use Rattle.gates.specs.Records.{is_record}
use Rattle.tables.specs.Tables.{too_large, repeated, first_large, first_repeated}
use Rattle.cascades.specs.Cascades.{records, ran}
use Rattle.cascades.specs.Answers.{bad_record, first_bad}
use Rattle.boards.specs.Boards.{set_ok}
use Rattle.choice.specs.Choice.{first_difference}
use Rattle.demands.specs.CardRows.{Places}
use Rattle.serials.specs.SerialTexts.{numbers_of, wrong_byte, first_wrong_byte}
use Rattle.serials.specs.Grammars.{Begins, SentAs}
use Rattle.serials.proofs.WrongBytes.{wrong_late}
use Rattle.serials.proofs.Grammars.{begun, not_begun}
use Rattle.serials.proofs.TableTexts.{sent_passes, passes_sent}
use Rattle.names.specs.Names.{text_lines, good, gate_named, first_wrong}
use Rattle.names.proofs.GoodLines.{good_gate, gate_good}
use Rattle.demands.specs.Refusals.{row3, row4, row7, row11, row12, row13, row14_byte, row14_end, Repeats, SubsetNumber, LineOf}

-- the first number below m that passes a test is the least with the property that the test decides
least_place : (f : ℕ → Bool) (P : ℕ → Type 0) (m k : ℕ) → ((i : ℕ) → f i ≡ true → P i) → ((i : ℕ) → f i ≡ false → P i → ⊥)
    → Places P m (record { applies = ltb (first f 0 m) m; number = k; place = first f 0 m })
least_place f P m k passes fails =
    let w = found f 0 m in
    record {
      least = λ e.
          record {
            inside = ltb-true (first f 0 m) m e;
            has = passes (first f 0 m) (w.hit (omega (arith, ltb-true (first f 0 m) m e)));
            none_before = λ j lt. fails j (w.before j (omega arith) lt);
          };
      nowhere = λ e i lt. fails i (w.before i (omega arith) (omega (arith, ltb-false (first f 0 m) m e)));
    }

-- the first entry that is 3^n or more
pub row3_places : (n : ℕ) (t : List ℕ) → Places (λ i. 3 ^ n ≤ get_or t i 0) (length t) (row3 n t)
unfolding first_large too_large
row3_places n t =
    least_place (too_large (3 ^ n) t) (λ i. 3 ^ n ≤ get_or t i 0) (length t) 3 (λ i e. leb-true (3 ^ n) (get_or t i 0) e)
    (λ i e le. clash (leb (3 ^ n) (get_or t i 0)) (le-leb (3 ^ n) (get_or t i 0) le) e)

-- the first entry that equals an earlier one
pub row4_places : (t : List ℕ) → Places (Repeats t) (length t) (row4 t)
unfolding first_repeated
row4_places t = least_place (repeated t) (Repeats t) (length t) 4 there nowhere
  where
    same : ℕ → ℕ → Bool
    same i j = eqb (get_or t j 0) (get_or t i 0)

    there : (i : ℕ) → repeated t i ≡ true → Repeats t i
    there i e =
        let j = first (same i) 0 i in
        let lt : j < i = omega (arith, some_first (same i) 0 i (unfold repeated in e)) in
        record { earlier = j; before = lt; equal = eqb-true (get_or t j 0) (get_or t i 0) ((found (same i) 0 i).hit (omega arith)) }

    nowhere : (i : ℕ) → repeated t i ≡ false → Repeats t i → ⊥
    nowhere i e w =
        clash (repeated t i) (unfold repeated in some_hit (same i) 0 i w.earlier (omega arith) (omega (arith, w.before)) (eq-eqb _ _ w.equal)) e

-- the first record that is no gate on n lines
pub row7_places : (n : ℕ) (b : List ℕ) → Places (λ i. is_record n b (8 * i) ≡ false) (records b) (row7 n b)
unfolding first_bad bad_record
row7_places n b =
    least_place (bad_record is_record n b) (λ i. is_record n b (8 * i) ≡ false) (records b) 7 (λ i e. not-true (is_record n b (8 * i)) e)
    (λ i e w. clash (is_record n b (8 * i)) (not-false (is_record n b (8 * i)) e) w)

-- the first input on which two cascades differ
pub row11_places : (n : ℕ) (gs hs : List Gate) → Places (λ p. ran gs p ≡ ran hs p → ⊥) (3 ^ n) (row11 n gs hs)
unfolding first_difference
row11_places n gs hs =
    least_place (λ p. not (eqb (ran gs p) (ran hs p))) (λ p. ran gs p ≡ ran hs p → ⊥) (3 ^ n) 11
    (λ p e. eqb-false (ran gs p) (ran hs p) (not-true (eqb (ran gs p) (ran hs p)) e))
    (λ p e w. w (eqb-true (ran gs p) (ran hs p) (not-false (eqb (ran gs p) (ran hs p)) e)))

-- the first line of a text that is not the line of a gate on n lines
pub row12_places : (n : ℕ) (t : List ℕ) → lines_ok n ≡ true → Places (λ i. LineOf n (get_or (text_lines t) i []) → ⊥) (length (text_lines t)) (row12 n t)
unfolding first_wrong
row12_places n t ok =
    least_place (λ i. not (good n (get_or (text_lines t) i []))) (λ i. LineOf n (get_or (text_lines t) i []) → ⊥) (length (text_lines t)) 12
    (λ i e w. clash (good n (get_or (text_lines t) i [])) (is_good (get_or (text_lines t) i []) w) (not-true (good n (get_or (text_lines t) i [])) e))
    (λ i e w. w (line_of (get_or (text_lines t) i []) (not-false (good n (get_or (text_lines t) i [])) e)))
  where
    is_good : (l : List ℕ) → LineOf n l → good n l ≡ true
    is_good l w = rw w.text (gate_good n (lines_are n ok).1 w.gate w.is)

    line_of : (l : List ℕ) → good n l ≡ true → LineOf n l
    line_of l e = let h = good_gate n (lines_are n ok).1 l e in record { gate = gate_named n l; is = h.0; text = sym h.1 }

-- the first byte up to which no text of numbers begins, and any at offset 65,535; of a number that is too large the row's place is the first byte
pub row14_places : (t : List ℕ) → Places (λ i. i < 65535 → Begins (take (suc i) t) → ⊥) (length t) (record { applies = (row14_byte t).applies; number = 14; place = first_wrong_byte t })
unfolding first_wrong_byte
row14_places t =
    record {
      least = λ e.
          let lt = ltb-true w (length t) e in
          record { inside = lt; has = λ early. not_begun t w lt early (f.hit (omega arith)); none_before = λ j l. begins j l (omega arith) };
      nowhere = λ e i lt. begins i (omega (arith, ltb-false w (length t) e)) lt;
    }
  where
    w : ℕ
    w = first (wrong_byte t) 0 (length t)

    f : Found (wrong_byte t) 0 (0 + length t) w
    f = found (wrong_byte t) 0 (length t)

    early : (i : ℕ) → wrong_byte t i ≡ false → i < 65535
    early i e = ⊎_elim (λ (lt : i < 65535). lt) (λ (le : 65535 ≤ i). clash (wrong_byte t i) (wrong_late t i le).0 e) (lt_or_le i 65535)

    begins : (i : ℕ) → i < w → i < length t → (i < 65535 → Begins (take (suc i) t) → ⊥) → ⊥
    begins i lt in-it none =
        let right : (j : ℕ) → j < suc i → wrong_byte t j ≡ false = λ j le. f.before j (omega arith) (omega arith) in
        none (early i (right i (omega arith))) (begun t (suc i) (omega arith) right)

-- ---- refusals by what is let through

-- a text gets past 14 exactly if the grammar has it, it ends with a newline and has at most 65,535 bytes; and it has the numbers of no other
pub row14_grammar : (t : List ℕ) → (((row14_byte t).applies ≡ false) × ((row14_end t).applies ≡ false)) ↔ SentAs t (numbers_of t)
row14_grammar t = (passes_sent t, λ s. (sent_passes t (numbers_of t) s).0)

pub sent_once : (t xs : List ℕ) → SentAs t xs → numbers_of t ≡ xs
sent_once t xs s = (sent_passes t xs s).1

-- a set that isn't the number of a non-empty subset of D, E, N
pub row13_sets : (s : ℕ) → ((row13 s).applies ≡ false) ↔ SubsetNumber s
unfolding set_ok
row13_sets s = (
  λ e.
      let ok : set_ok s ≡ true = not-false (set_ok s) e in
      subset s (leb-true 1 s (and_left (leb 1 s) _ ok)) (leb-true s 7 (and_right (leb 1 s) _ ok)),
  λ w. rw w.added (refuses w.d w.e w.n w.not_empty),
)
  where
    subset : (k : ℕ) → 1 ≤ k → k ≤ 7 → SubsetNumber k
    subset zero lo hi = absurd (omega arith)
    subset (suc zero) lo hi = record { d = true; e = false; n = false; not_empty = refl; added = refl }
    subset (suc (suc zero)) lo hi = record { d = false; e = true; n = false; not_empty = refl; added = refl }
    subset (suc (suc (suc zero))) lo hi = record { d = true; e = true; n = false; not_empty = refl; added = refl }
    subset (suc (suc (suc (suc zero)))) lo hi = record { d = false; e = false; n = true; not_empty = refl; added = refl }
    subset (suc (suc (suc (suc (suc zero))))) lo hi = record { d = true; e = false; n = true; not_empty = refl; added = refl }
    subset (suc (suc (suc (suc (suc (suc zero)))))) lo hi = record { d = false; e = true; n = true; not_empty = refl; added = refl }
    subset (suc (suc (suc (suc (suc (suc (suc zero))))))) lo hi = record { d = true; e = true; n = true; not_empty = refl; added = refl }
    subset (suc (suc (suc (suc (suc (suc (suc (suc k)))))))) lo hi = absurd (omega arith)

    refuses : (d e n : Bool) → (d || e || n) ≡ true → not (set_ok (cond d 1 0 + cond e 2 0 + cond n 4 0)) ≡ false
    refuses true true true h = refl
    refuses true true false h = refl
    refuses true false true h = refl
    refuses true false false h = refl
    refuses false true true h = refl
    refuses false true false h = refl
    refuses false false true h = refl
    refuses false false false h = clash false h refl
