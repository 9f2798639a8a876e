-- How long a file's text is. A file is refused or holds a permutation (`file_is`), whose cascade has at most 4,010 gates.
-- `sheet_most` bounds the text of any bytes, `sheet_accepted` says that the program's room takes them all, and `cut_alike` that the bytes which the
-- program does not read change nothing. Assumes nothing.
use Rattle.std.proofs.Common.{◌≡◌, refl, sym, ap, ◌∙◌, true, false, ◌⊎◌, List, [], ◌∷◌, ℕ, ◌+◌, ◌*◌, ◌^◌, ◌≤◌, ◌<◌, arith, length, take, length-take, length-take-le, take_all, take_at, get_or-take, le-ltb, Result, Ok, Err}
use Rattle.std.proofs.lemmas.Bool.{not-false}
use Rattle.ranges.proofs.Bools.{decide}
use Rattle.ranges.proofs.Counts.{lt_or_le}
use Rattle.card.specs.Card.{Answer, Answer.accepted, Answer.refused, lines_ok, on_lines, laid}
use Rattle.std.specs.Result.{IsOk}
use Rattle.card.specs.declared.Refusal.{Refusal}
use Rattle.card.specs.Answers.{number_as}
use Rattle.card.proofs.Cards.{lines_are, refusing_no, refusing_passed, not_accepted, after_accepted}
use Rattle.digits.proofs.Sizes.{patterns_most}
use Rattle.tables.specs.Permutations.{Permutation}
use Rattle.tables.proofs.Accepts.{table_accepted}
use Rattle.synthesis.specs.Synthesis.{synthesized}
use Rattle.synthesis.proofs.Synthesis.{bound_most, synthesized_bound, synthesized_cascade}
use Rattle.texts.proofs.Decimals.{width_most}
use Rattle.listings.proofs.Lengths.{listing_lines}
use Rattle.sheets.specs.Sheets.{lines_of, entries_of, file_answer, sheet_text, sheet_answer, sheet_room}
use Rattle.sheets.proofs.SheetAnswers.{file_lines, file_broken, refusal_parts, refusal_length, text_listing}

-- the file is refused
pub record FileRefused (f : List ℕ) : Type 0 where
  pub number : ℕ
  pub place : ℕ
  pub is : file_answer f ≡ refused number place

-- it holds a permutation
pub record FileGood (f : List ℕ) : Type 0 where
  pub lines : lines_ok (lines_of f) ≡ true
  pub permutation : Permutation (3 ^ lines_of f) (entries_of f)
  pub is : file_answer f ≡ accepted []

file_good : (f : List ℕ) (vs : List ℕ) → file_answer f ≡ accepted vs → FileGood f
unfolding file_answer on_lines
file_good f vs e =
    let lines = refusing_passed _ 1 0 _ vs e in
    let whole = refusing_passed _ 2 0 _ vs lines.1 in
    let table = table_accepted (3 ^ lines_of f) (entries_of f) (accepted []) vs whole.1 in
    record { lines = not-false _ lines.0; permutation = table.0; is = e ∙ sym table.1 }

pub file_is : (f : List ℕ) → FileRefused f ⊎ FileGood f
file_is f = go (file_answer f) refl
  where
    go : (a : Answer) → file_answer f ≡ a → FileRefused f ⊎ FileGood f
    go (refused k p) e = ◌⊎◌.inl (record { number = k; place = p; is = e })
    go (accepted vs) e = ◌⊎◌.inr (file_good f vs e)

-- 31 bytes for each of 4,010 gates and for the head line
pub sheet_most : (f : List ℕ) → length (sheet_text f) ≤ 124341
sheet_most f = go (file_is f)
  where
    go : FileRefused f ⊎ FileGood f → length (sheet_text f) ≤ 124341
    go (◌⊎◌.inl r) = omega (arith, refusal_length f r.number r.place r.is, width_most r.number, width_most r.place)
    go (◌⊎◌.inr g) =
        let six = (lines_are (lines_of f) g.lines).1 in
        let few = synthesized_bound (lines_of f) (entries_of f) six g.permutation in
        let most = bound_most (lines_of f) six in
        let long = listing_lines (lines_of f) (synthesized (lines_of f) (entries_of f)) six (synthesized_cascade (lines_of f) (entries_of f) six g.permutation) in
        rw (text_listing f g.is) (omega arith)

-- so a room of 131,072 bytes takes the text of any input
pub sheet_accepted : (f : List ℕ) → sheet_answer f 131072 ≡ accepted (length (sheet_text f) ∷ [])
unfolding sheet_answer
sheet_accepted f = refusing_no _ 5 _ _ (le-ltb 131072 (length (sheet_text f)) (omega (arith, sheet_most f)))

-- and the text stands at its start
module _ (f room : List ℕ) (wide : length room ≡ 131072) where
  pub wide_accepted : sheet_answer f (length room) ≡ accepted (length (sheet_text f) ∷ [])
  wide_accepted = rw wide (sheet_accepted f)

  pub sheet_first : (m : ℕ) → accepted (m ∷ []) ≡ sheet_answer f (length room) → (now : List ℕ) → now ≡ sheet_room f room
      → (take m now ≡ sheet_text f) × ((m ≤ length now) × (m ≡ length (take m now)))
  unfolding sheet_room laid
  sheet_first m answer now is =
      let size : m ≡ length (sheet_text f) = same (answer ∙ wide_accepted) in
      let text : take m now ≡ sheet_text f = ap (take m) (is ∙ after_accepted _ _ _ _ wide_accepted) ∙ take_at (sheet_text f) _ m (sym size) in
      let count : m ≡ length (take m now) = size ∙ ap length (sym text) in
      (text, (omega (arith, count, length-take m now), count))
    where
      same : accepted (m ∷ []) ≡ accepted (length (sheet_text f) ∷ []) → m ≡ length (sheet_text f)
      same e = cc

  -- so that no file's text is refused that room
  pub sheet_taken : (r : Result ℕ Refusal) → number_as r ≡ sheet_answer f (length room) → IsOk r
  sheet_taken (Ok k) e = refl
  sheet_taken (Err d) e = not_accepted _ _ _ (e ∙ wide_accepted)

-- ---- a longer input

-- the longest table file has 1,459 bytes
too_long : (f : List ℕ) → 1459 < length f → lines_ok (lines_of f) ≡ true → file_answer f ≡ refused 2 0
too_long f long ok = file_broken f ok (λ (size : length f ≡ 1 + 2 * 3 ^ lines_of f). omega (arith, patterns_most (lines_of f) (lines_are (lines_of f) ok).1))

refused_alike : (f g : List ℕ) (k p : ℕ) → file_answer f ≡ refused k p → file_answer g ≡ refused k p → sheet_text f ≡ sheet_text g
refused_alike f g k p e h = refusal_parts f k p e ∙ sym (refusal_parts g k p h)

-- so two that are longer are refused alike, by 1 or by 2, if their first byte is the same
too_long_alike : (f g : List ℕ) → 1459 < length f → 1459 < length g → lines_of f ≡ lines_of g → sheet_text f ≡ sheet_text g
too_long_alike f g long longer first = go (decide (lines_ok (lines_of g)))
  where
    go : (lines_ok (lines_of g) ≡ true) ⊎ (lines_ok (lines_of g) ≡ false) → sheet_text f ≡ sheet_text g
    go (◌⊎◌.inr bad) = refused_alike f g 1 0 (file_lines f (rw first bad)) (file_lines g bad)
    go (◌⊎◌.inl ok) = refused_alike f g 2 0 (too_long f long (rw first ok)) (too_long g longer ok)

-- the program reads 1,460 bytes: whatever follows them, the text is that of the whole input
pub cut_alike : (f : List ℕ) → sheet_text (take 1460 f) ≡ sheet_text f
unfolding lines_of
cut_alike f = go (lt_or_le 1460 (length f))
  where
    go : (1460 < length f) ⊎ (length f ≤ 1460) → sheet_text (take 1460 f) ≡ sheet_text f
    go (◌⊎◌.inr le) = ap sheet_text (take_all 1460 f le)
    go (◌⊎◌.inl lt) = too_long_alike (take 1460 f) f (rw (length-take-le 1460 f (omega arith)) (omega arith)) (omega arith) (get_or-take 1460 f 0 0 (omega arith))
