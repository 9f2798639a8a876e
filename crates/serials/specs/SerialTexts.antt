-- A table as text, whole: which byte can stand where, which numbers the text has, what it is answered in one part, and what the lent table holds afterwards.
use Rattle.std.specs.Prelude.{ℕ, zero, suc, ◌+◌, ◌-◌, ◌*◌, ◌^◌, Bool, cond, not, ◌&&◌, ◌||◌, List, [], ◌∷◌, ◌++◌, eqb, leb, ltb, length, get_or}
use Rattle.ranges.specs.Ranges.{first}
use Rattle.card.specs.Card.{Answer, Answer.accepted, refusing, on_lines, after, laid}
use Rattle.tables.specs.Tables.{on_table}

-- ---- bytes

-- one of the ten digits; a space or a newline
unfoldable pub is_digit : ℕ → Bool
is_digit b = leb 0x30 b && leb b 0x39

unfoldable pub is_mark : ℕ → Bool
is_mark b = eqb b 32 || eqb b 10

-- a number with one digit more
unfoldable pub with_digit : ℕ → ℕ → ℕ
with_digit x b = 10 * x + (b - 0x30)

-- byte b can follow byte a, where x is the number whose digits a ends: after a digit a mark, or one more digit of a number that does not begin with 0;
-- after a mark a digit
unfoldable pub follows : ℕ → ℕ → ℕ → Bool
follows a x b = cond (is_digit a) (is_mark b || (is_digit b && not (eqb x 0))) (is_digit b)

-- ---- what stands before offset i

-- the byte right before it; a text begins as after a space
unfoldable pub byte_before : List ℕ → ℕ → ℕ
byte_before t zero = 32
byte_before t (suc i) = get_or t i 0

-- the number whose digits end there, 0 where there is none; and the offset at which it begins, or the next one does
unfoldable pub number_to : List ℕ → ℕ → ℕ
number_to t zero = 0
number_to t (suc i) = cond (is_digit (get_or t i 0)) (with_digit (number_to t i) (get_or t i 0)) 0

unfoldable pub number_start : List ℕ → ℕ → ℕ
number_start t zero = 0
number_start t (suc i) = cond (is_digit (get_or t i 0)) (number_start t i) (suc i)

-- the numbers that a mark before offset i ends, first to last
unfoldable pub numbers_to : List ℕ → ℕ → List ℕ
numbers_to t zero = []
numbers_to t (suc i) = cond (is_mark (get_or t i 0)) (numbers_to t i ++ (number_to t i ∷ [])) (numbers_to t i)

unfoldable pub numbers_of : List ℕ → List ℕ
numbers_of t = numbers_to t (length t)

-- ---- refusal 14

-- byte i can stand there; no byte can at offset 65,535
unfoldable pub can_stand : List ℕ → ℕ → Bool
can_stand t i = ltb i 65535 && follows (byte_before t i) (number_to t i) (get_or t i 0)

-- it cannot, or it shows a number above 65,535; the latter's place is that number's first byte
unfoldable pub wrong_byte : List ℕ → ℕ → Bool
wrong_byte t i = not (can_stand t i) || ltb 65535 (number_to t (suc i))

unfoldable pub wrong_place : List ℕ → ℕ → ℕ
wrong_place t i = cond (can_stand t i) (number_start t i) i

-- the first wrong byte, or the length
unfoldable pub first_wrong_byte : List ℕ → ℕ
first_wrong_byte t = first (wrong_byte t) 0 (length t)

-- 14 of a byte, and else the answer x
unfoldable pub on_bytes : List ℕ → Answer → Answer
on_bytes t x = let wrong = first_wrong_byte t in refusing (ltb wrong (length t)) 14 (wrong_place t wrong) x

-- ---- the answers

-- 1 14: a text that goes on has no entries yet
unfoldable pub part_answer : ℕ → List ℕ → Answer
part_answer n t = on_lines n (on_bytes t (accepted (0 ∷ [])))

-- 2 3 4 5, of numbers and a lent table of so many entries
unfoldable pub entries_answer : ℕ → List ℕ → ℕ → Answer
entries_answer n xs room = on_table (3 ^ n) xs (refusing (ltb room (3 ^ n)) 5 (3 ^ n) (accepted (3 ^ n ∷ [])))

-- 1 14, 14 of an end not straight after a newline, 2 3 4 5
unfoldable pub end_answer : ℕ → List ℕ → ℕ → Answer
end_answer n t room =
    on_lines n (on_bytes t (refusing (not (eqb (byte_before t (length t)) 10)) 14 (length t) (entries_answer n (numbers_of t) room)))

unfoldable pub end_table : ℕ → List ℕ → List ℕ → List ℕ
end_table n t table = after (end_answer n t (length table)) (laid (numbers_of t) table) table
