-- The cases P1 to P13 of document 01, what it prints of the vector of 003, and its edges: what each call must answer, and what it must leave.
use Rattle.std.specs.Prelude.{ℕ, ◌+◌, ◌-◌, ◌*◌, ◌^◌, List, [], ◌∷◌, ◌++◌, replicate}
use Rattle.ranges.specs.Ranges.{span}
use Rattle.card.specs.Card.{Answer, Answer.accepted, Answer.refused}
use Rattle.cascades.specs.Cascades.{gates_of, bytes_of, table_of}
use Rattle.cascades.specs.Answers.{check_answer}
use Rattle.pricing.specs.Prices.{base, price_answer}
use Rattle.tables.specs.Tables.{check_table_answer}
use Rattle.synthesis.specs.Synthesis.{synthesized, synthesize_answer, synthesize_room}
use Rattle.rules.specs.Tidying.{tidy_answer, tidy_buffer}
use Rattle.texts.specs.Texts.{ascii, joined}
use Rattle.listings.specs.Listings.{listing_text}
use Rattle.sheets.specs.Sheets.{sheet_text}

-- what a call answers; or numbers: the bytes that it leaves in a lent buffer, a text, a table
pub data Result : Type 0 where
  says : Answer → Result
  lists : List ℕ → Result

-- a case: what the definitions give, and what document 01 says
pub record Case : Type 0 where
  pub computed : Result
  pub expected : Result

abbrev pub answer_is : Answer → Answer → List Case
answer_is a b = record { computed = says a; expected = says b } ∷ []

abbrev pub numbers_are : List ℕ → List ℕ → List Case
numbers_are a b = record { computed = lists a; expected = lists b } ∷ []

-- records by their names: the operator, the target, and what stands on the other of x0 and x1
abbrev pub C1 : ℕ
C1 = 1

abbrev pub C2 : ℕ
C2 = 2

abbrev pub N : ℕ
N = 3

abbrev pub D : ℕ
D = 4

abbrev pub E : ℕ
E = 5

abbrev pub no_control : ℕ
no_control = 3

abbrev pub x0 : ℕ → ℕ → List ℕ
x0 o c = o ∷ 0 ∷ 3 ∷ c ∷ 3 ∷ 3 ∷ 3 ∷ 3 ∷ []

abbrev x1 : ℕ → ℕ → List ℕ
x1 o c = o ∷ 1 ∷ c ∷ 3 ∷ 3 ∷ 3 ∷ 3 ∷ 3 ∷ []

-- a record freed by tidying
abbrev zero_record : List ℕ
zero_record = 0 ∷ 0 ∷ 0 ∷ 0 ∷ 0 ∷ 0 ∷ 0 ∷ 0 ∷ []

-- what a lent room held before: m bytes from place i on, each with a value of its own
abbrev old_bytes : ℕ → ℕ → List ℕ
old_bytes i m = span (λ k. 0x80 + k) i m

-- the cascade found for the table t, as bytes
abbrev bytes_for : ℕ → List ℕ → List ℕ
bytes_for n t = bytes_of (synthesized n t)

-- the cascade b costs c at the global control value 2, with all operators fitted
abbrev price_is : ℕ → List ℕ → ℕ → List Case
price_is n b c = answer_is (price_answer n 2 7 b) (accepted (c ∷ []))

-- synthesis of the table t into a room of m bytes answers a and leaves b
abbrev synthesizes : ℕ → List ℕ → ℕ → Answer → List ℕ → List Case
synthesizes n t m a b = answer_is (synthesize_answer n t m) a ++ numbers_are (synthesize_room n t (old_bytes 0 m)) b

-- check and synthesis refuse the table t by k at p, and the room stays as it was
abbrev refuses : ℕ → List ℕ → ℕ → ℕ → List Case
refuses n t k p = answer_is (check_table_answer n t) (refused k p) ++ synthesizes n t 16 (refused k p) (old_bytes 0 16)

-- tidying the cascade b answers a and leaves c
abbrev tidies : ℕ → List ℕ → Answer → List ℕ → List Case
tidies n b a c = answer_is (tidy_answer n b) a ++ numbers_are (tidy_buffer n b) c

-- n 1, table 0 1 2: no gates, cost 0
abbrev P1 : List Case
P1 =
    let t : List ℕ = 0 ∷ 1 ∷ 2 ∷ [] in
    synthesizes 1 t 16 (accepted (0 ∷ [])) (old_bytes 0 16) ++ price_is 1 (bytes_for 1 t) 0

-- n 1, table 1 2 0: D x0, E x0, cost 2, exactly the bound: a room of two records is enough, and a byte less is not
abbrev P2 : List Case
P2 =
    let t : List ℕ = 1 ∷ 2 ∷ 0 ∷ [] in
    synthesizes 1 t 16 (accepted (2 ∷ [])) (x0 D no_control ++ x0 E no_control)
    ++ synthesizes 1 t 15 (refused 5 2) (old_bytes 0 15)
    ++ synthesizes 1 t 8 (refused 5 2) (old_bytes 0 8)
    ++ synthesizes 1 t 19 (accepted (2 ∷ [])) (x0 D no_control ++ x0 E no_control ++ old_bytes 16 3)
    ++ price_is 1 (bytes_for 1 t) 2

-- n 1, table 0 1 3: 3 at 2
abbrev P3 : List Case
P3 = refuses 1 (0 ∷ 1 ∷ 3 ∷ []) 3 2

-- 0 0 1: 4 at 1
abbrev P4 : List Case
P4 = refuses 1 (0 ∷ 0 ∷ 1 ∷ []) 4 1

-- 0 0 3: 3 at 2
abbrev P5 : List Case
P5 = refuses 1 (0 ∷ 0 ∷ 3 ∷ []) 3 2

-- table 0 1 at n 1: 2
abbrev P6 : List Case
P6 = refuses 1 (0 ∷ 1 ∷ []) 2 0

-- n 0 and n 7: 1, though the tables have 3^n entries
abbrev P7 : List Case
P7 = refuses 0 (0 ∷ []) 1 0 ++ refuses 7 (span (λ i. i) 0 (3 ^ 7)) 1 0

-- C1 x0, C1 x0 tidies to C2 x0, one step
abbrev P8 : List Case
P8 = tidies 1 (x0 C1 no_control ++ x0 C1 no_control) (accepted (1 ∷ 1 ∷ [])) (x0 C2 no_control ++ zero_record)

-- C1 x0, C2 x0 to nothing
abbrev P9 : List Case
P9 = tidies 1 (x0 C1 no_control ++ x0 C2 no_control) (accepted (0 ∷ 1 ∷ [])) (zero_record ++ zero_record)

-- C1 x0 x1=0, C1 x0 x1=1 to C1 x0, C2 x0 x1=2; cost at value 2 falls from 6 to 2
abbrev P10 : List Case
P10 =
    let b : List ℕ = x0 C1 0 ++ x0 C1 1 in
    tidies 2 b (accepted (2 ∷ 1 ∷ [])) (x0 C1 no_control ++ x0 C2 2) ++ price_is 2 b 6 ++ price_is 2 (tidy_buffer 2 b) 2

-- D x0 x1=0, D x0 x1=2 to D x0, D x0 x1=1; cost stays 4
abbrev P11 : List Case
P11 =
    let b : List ℕ = x0 D 0 ++ x0 D 2 in
    tidies 2 b (accepted (2 ∷ 1 ∷ [])) (x0 D no_control ++ x0 D 1) ++ price_is 2 b 4 ++ price_is 2 (tidy_buffer 2 b) 4

-- E x1, D x0 x1=2, E x1 to D x0 x1=2
abbrev P12 : List Case
P12 = tidies 2 (x1 E no_control ++ x0 D 2 ++ x1 E no_control) (accepted (1 ∷ 1 ∷ [])) (x0 D 2 ++ zero_record ++ zero_record)

-- with N for E, nothing fits
abbrev P13 : List Case
P13 = let b : List ℕ = x1 N no_control ++ x0 D 2 ++ x1 N no_control in tidies 2 b (accepted (3 ∷ 0 ∷ [])) b

-- the vector of 003: its table, its table file, and the listing that document 01 prints
abbrev table_003 : List ℕ
table_003 = 5 ∷ 6 ∷ 1 ∷ 7 ∷ 2 ∷ 3 ∷ 8 ∷ 0 ∷ 4 ∷ []

abbrev file_003 : List ℕ
file_003 = 2 ∷ 5 ∷ 0 ∷ 6 ∷ 0 ∷ 1 ∷ 0 ∷ 7 ∷ 0 ∷ 2 ∷ 0 ∷ 3 ∷ 0 ∷ 8 ∷ 0 ∷ 0 ∷ 0 ∷ 4 ∷ 0 ∷ []

abbrev listing_003 : List ℕ
listing_003 =
    ascii "lines 2 gates 11 cost 21\n"
    ++ ascii "D x0 x1=2\n"
    ++ ascii "N x0 x1=2\n"
    ++ ascii "D x1 x0=1\n"
    ++ ascii "D x0 x1=2\n"
    ++ ascii "D x1 x0=0\n"
    ++ ascii "N x1 x0=2\n"
    ++ ascii "D x0 x1=2\n"
    ++ ascii "N x1 x0=1\n"
    ++ ascii "E x0 x1=2\n"
    ++ ascii "E x1 x0=0\n"
    ++ ascii "N x0 x1=1\n"

-- the same gates as records
abbrev pub gates_003 : List ℕ
gates_003 =
    x0 D 2 ++ x0 N 2 ++ x1 D 1 ++ x0 D 2 ++ x1 D 0 ++ x1 N 2 ++ x0 D 2 ++ x1 N 1 ++ x0 E 2 ++ x1 E 0 ++ x0 N 1

-- the room of 14 records: 11 are written, and the last 24 bytes keep what they held
abbrev vector_003 : List Case
vector_003 =
    synthesizes 2 table_003 (14 * 8) (accepted (11 ∷ [])) (gates_003 ++ old_bytes 88 24)
    ++ price_is 2 (bytes_for 2 table_003) 21
    ++ numbers_are (table_of 2 (synthesized 2 table_003)) table_003
    ++ numbers_are (listing_text 2 (synthesized 2 table_003)) listing_003
    ++ numbers_are (sheet_text file_003) listing_003

-- one line for a refused table file: 0 1 1 at n 1; the empty input, which counts as n 0; a byte missing
abbrev refusal_lines : List Case
refusal_lines =
    numbers_are (sheet_text (1 ∷ 0 ∷ 0 ∷ 1 ∷ 0 ∷ 1 ∷ 0 ∷ [])) (ascii "refused 4 at 2\n")
    ++ numbers_are (sheet_text []) (ascii "refused 1 at 0\n")
    ++ numbers_are (sheet_text (1 ∷ 0 ∷ 0 ∷ 1 ∷ 0 ∷ 2 ∷ [])) (ascii "refused 2 at 0\n")

-- known ways to get it wrong: the gates of P2 in the order found; C2 for 2 to 1 in row 1; C1 reduced with C2
abbrev known_ways : List Case
known_ways =
    numbers_are (table_of 1 (gates_of (x0 E no_control ++ x0 D no_control))) (2 ∷ 0 ∷ 1 ∷ [])
    ++ numbers_are (bytes_for 1 (0 ∷ 2 ∷ 1 ∷ [])) (x0 D no_control)
    ++ tidies 2 (x0 C1 0 ++ x0 C2 1) (accepted (2 ∷ 0 ∷ [])) (x0 C1 0 ++ x0 C2 1)

-- room 13 at n 2: 5 at 14, also where only a byte is missing from 14
abbrev rooms : List Case
rooms =
    synthesizes 2 table_003 (13 * 8) (refused 5 14) (old_bytes 0 (13 * 8))
    ++ synthesizes 2 table_003 (14 * 8 - 1) (refused 5 14) (old_bytes 0 (14 * 8 - 1))

-- empty and one-gate cascades tidy to themselves, 0 steps
abbrev short_cascades : List Case
short_cascades = tidies 2 [] (accepted (0 ∷ 0 ∷ [])) [] ++ tidies 2 (x0 C1 2) (accepted (1 ∷ 0 ∷ [])) (x0 C1 2)

-- 8,001 gates: 6; of 8,000 records that are no gates the first is refused instead
abbrev long_cascades : List Case
long_cascades =
    answer_is (check_answer 1 (joined (replicate 8001 (x0 C1 no_control)))) (refused 6 0)
    ++ answer_is (check_answer 1 (joined (replicate 8001 zero_record))) (refused 6 0)
    ++ answer_is (check_answer 1 (joined (replicate 8000 zero_record))) (refused 7 0)

-- the base cost of 0 to 5 controls
abbrev base_costs : List Case
base_costs = numbers_are (span base 0 6) (1 ∷ 1 ∷ 5 ∷ 15 ∷ 35 ∷ 75 ∷ [])

abbrev pub cases : List Case
cases =
    P1 ++ P2 ++ P3 ++ P4 ++ P5 ++ P6 ++ P7 ++ P8 ++ P9 ++ P10 ++ P11 ++ P12 ++ P13
    ++ vector_003 ++ refusal_lines ++ known_ways ++ rooms ++ short_cascades ++ long_cascades ++ base_costs
