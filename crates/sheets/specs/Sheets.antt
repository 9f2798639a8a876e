-- The program's whole text for the bytes of a table file.
use Rattle.std.specs.Prelude.{ℕ, ◌+◌, ◌-◌, ◌*◌, ◌/◌, ◌^◌, not, List, [], ◌∷◌, ◌++◌, eqb, ltb, length, get_or}
use Rattle.ranges.specs.Ranges.{span}
use Rattle.card.specs.Card.{Answer, Answer.accepted, Answer.refused, refusing, on_lines, after, laid}
use Rattle.tables.specs.Tables.{on_table}
use Rattle.synthesis.specs.Synthesis.{synthesized}
use Rattle.texts.specs.Texts.{ascii, decimal}
use Rattle.listings.specs.Listings.{listing_text}

-- the first byte is n, 0 for an empty input; then entries of 16 bits, low byte first
unfoldable pub lines_of : List ℕ → ℕ
lines_of f = get_or f 0 0

unfoldable pub entries_of : List ℕ → List ℕ
entries_of f = span (λ i. get_or f (1 + 2 * i) 0 + 256 * get_or f (2 + 2 * i) 0) 0 ((length f - 1) / 2)

-- 1, then 2 for a broken length, then 3 and 4
unfoldable pub file_answer : List ℕ → Answer
file_answer f = on_lines (lines_of f) (refusing (not (eqb (length f) (1 + 2 * 3 ^ lines_of f))) 2 0 (on_table (3 ^ lines_of f) (entries_of f) (accepted [])))

-- a refusal's line, or the listing
unfoldable pub text_for : Answer → List ℕ → List ℕ
text_for (refused k p) f = ascii "refused " ++ decimal k ++ ascii " at " ++ decimal p ++ ascii "\n"
text_for (accepted vs) f = listing_text (lines_of f) (synthesized (lines_of f) (entries_of f))

unfoldable pub sheet_text : List ℕ → List ℕ
sheet_text f = text_for (file_answer f) f

-- 5: a room of so many bytes
unfoldable pub sheet_answer : List ℕ → ℕ → Answer
sheet_answer f room = refusing (ltb room (length (sheet_text f))) 5 (length (sheet_text f)) (accepted (length (sheet_text f) ∷ []))

unfoldable pub sheet_room : List ℕ → List ℕ → List ℕ
sheet_room f room = after (sheet_answer f (length room)) (laid (sheet_text f) room) room
