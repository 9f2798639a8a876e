-- 1, 6 and 7 of a cascade of ternary gates. What the answer of checking says: accepted, the bytes are gates; refused, so is every other call.
-- Assumes nothing.
use Rattle.std.proofs.Common.{◌≡◌, List, [], ◌∷◌, ℕ}
use Rattle.card.specs.Card.{Answer, Answer.accepted, Answer.refused, on_lines}
use Rattle.gates.specs.Records.{is_record}
use Rattle.cascades.specs.Cascades.{records}
use Rattle.cascades.specs.Inner.Checked.{Whole}
use Rattle.cascades.specs.Answers.{on_cascade, check_answer}
use Rattle.cascades.proofs.Answers.{records_passed, behind_accepted, behind_refused}

module _ (n : ℕ) (b : List ℕ) where
  pub passed : (x : Answer) (m : ℕ) → Whole n b m → on_lines n (on_cascade n b x) ≡ x
  passed = records_passed is_record n b

  pub check_whole : (vs : List ℕ) → check_answer n b ≡ accepted vs → Whole n b (records b)
  unfolding check_answer
  check_whole vs e = (behind_accepted is_record n b _ vs e).0

  pub check_count : (m : ℕ) → check_answer n b ≡ accepted (m ∷ []) → m ≡ records b
  unfolding check_answer
  check_count m e =
      let a = (behind_accepted is_record n b _ (m ∷ []) e).1 in
      cc

  pub check_refused : (k p : ℕ) (x : Answer) → check_answer n b ≡ refused k p → on_lines n (on_cascade n b x) ≡ refused k p
  unfolding check_answer
  check_refused = behind_refused is_record n b (records b ∷ [])
