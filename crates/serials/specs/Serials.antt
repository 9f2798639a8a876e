-- The reader: what a byte, a part and the end make of it, and what it answers. Any numbers are taken for a reader, made up or not.
use Rattle.std.specs.Prelude.{ℕ, ◌+◌, ◌≡◌, Bool, cond, not, ◌&&◌, List, [], ◌∷◌, eqb, ltb, length, take, set, replicate, Result, Ok, Err}
use Rattle.card.specs.Card.{Answer, Answer.accepted, Answer.refused, refusing, lines_ok, on_lines, after, laid}
use Rattle.serials.specs.declared.Scan.{Scan}
use Rattle.serials.specs.declared.Serial.{Serial}
use Rattle.serials.specs.declared.Stopped.{Stopped}
use Rattle.serials.specs.declared.Reply.{Reply}
use Rattle.serials.specs.SerialTexts.{is_mark, with_digit, follows, entries_answer}

abbrev pub serial : Scan → List ℕ → Serial
serial s es = record { scan = s; entries = es }

-- ---- the answer that stands in a reader

-- the document's number and values for each case of the answer
abbrev pub told_as : Result ℕ Stopped → Answer
told_as (Ok m) = accepted (m ∷ [])
told_as (Err e) = refused e.number e.place

-- no entries while the text goes on; then a refusal, or all numbers as the entries
unfoldable pub told_of : Scan → Result ℕ Stopped
told_of s = cond (eqb s.over 0) (Ok 0) (cond (eqb s.number 0) (Ok s.count) (Err (record { number = s.number; place = s.place })))

abbrev pub standing : Serial → Answer
standing r = told_as (told_of r.scan)

abbrev pub reply : Serial → Reply
reply r = record { reader = r; told = told_of r.scan }

-- refusal k at p stands; acceptance where k is 0
unfoldable pub stopped : Scan → ℕ → ℕ → Scan
stopped s k p =
    record { lines = s.lines; last = s.last; over = 1; number = k; place = p; at = s.at; first = s.first; value = s.value; count = s.count }

-- ---- a byte

-- byte b can come next; no byte can at offset 65,535
unfoldable pub comes_next : Scan → ℕ → Bool
comes_next s b = ltb s.at 65535 && follows s.last s.value b

-- a digit makes the number under way x
unfoldable pub digit_taken : Scan → ℕ → ℕ → Scan
digit_taken s b x =
    record { lines = s.lines; last = b; over = s.over; number = s.number; place = s.place; at = s.at + 1; first = s.first; value = x; count = s.count }

-- a mark ends it, and it is counted, up to 730
unfoldable pub mark_taken : Scan → ℕ → Scan
mark_taken s b =
    let m = cond (ltb s.count 730) (s.count + 1) s.count in
    record { lines = s.lines; last = b; over = s.over; number = s.number; place = s.place; at = s.at + 1; first = s.at + 1; value = 0; count = m }

-- a byte that cannot come next, a mark, a digit that shows a number above 65,535, and any other digit
unfoldable pub stepped : Scan → ℕ → Scan
stepped s b =
    let x = with_digit s.value b in
    cond (not (eqb s.over 0)) s
    (cond (not (comes_next s b)) (stopped s 14 s.at)
    (cond (is_mark b) (mark_taken s b) (cond (ltb 65535 x) (stopped s 14 s.first) (digit_taken s b x))))

-- a number that was counted is kept, as far as there are places
unfoldable pub kept : Scan → Scan → List ℕ → List ℕ
kept s next es = cond (ltb s.count next.count) (set es s.count s.value) es

-- ---- the start, a part, the end

unfoldable pub opened : ℕ → Scan
opened n =
    let bad : ℕ = cond (lines_ok n) 0 1 in
    record { lines = n; last = 32; over = bad; number = bad; place = 0; at = 0; first = 0; value = 0; count = 0 }

unfoldable pub started : ℕ → Serial
started n = serial (opened n) (replicate 729 0)

unfoldable pub fed : Serial → List ℕ → Serial
fed r [] = r
fed r (b ∷ bs) = fed (serial (stepped r.scan b) (kept r.scan (stepped r.scan b) r.entries)) bs

-- parts one after the other
unfoldable pub fed_all : Serial → List (List ℕ) → Serial
fed_all r [] = r
fed_all r (part ∷ parts) = fed_all (fed r part) parts

-- the numbers kept
abbrev pub numbers_in : Serial → List ℕ
numbers_in r = take r.scan.count r.entries

-- 14 of an end not straight after a newline, 2 of more numbers than were kept, 1 2 3 4 5 of these
unfoldable pub closing : Serial → ℕ → Answer
closing r room =
    refusing (not (eqb r.scan.last 10)) 14 r.scan.at
    (refusing (ltb (length r.entries) r.scan.count) 2 0 (on_lines r.scan.lines (entries_answer r.scan.lines (numbers_in r) room)))

abbrev pub stopped_by : Scan → Answer → Scan
stopped_by s (accepted vs) = stopped s 0 0
stopped_by s (refused k p) = stopped s k p

unfoldable pub ended : Serial → ℕ → Serial
ended r room = serial (cond (eqb r.scan.over 0) (stopped_by r.scan (closing r room)) r.scan) r.entries

-- the lent table afterwards
unfoldable pub ended_table : Serial → List ℕ → List ℕ
ended_table r table = cond (eqb r.scan.over 0) (after (closing r (length table)) (laid (numbers_in r) table) table) table

-- nothing that the reader is told changes it, so that it answers the same again, and no table changes
pub record Stands (r : Serial) : Type 0 where
  pub part : (bytes : List ℕ) → fed r bytes ≡ r
  pub end : (room : ℕ) → ended r room ≡ r
  pub table : (table : List ℕ) → ended_table r table ≡ table
