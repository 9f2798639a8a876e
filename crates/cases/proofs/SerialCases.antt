-- The texts of request 4 are answered as the request says, 5 is given in its turn, and an accepted text leaves its table at the start of the room: computed.
-- Assumes nothing.
use mathlib.Core.Path.{◌≡◌, refl}
use mathlib.Core.List.{[], ◌∷◌, map}
use Rattle.ranges.specs.Ranges.{some, first}
use Rattle.card.specs.Card.{Answer.refused, refusing, lines_ok, on_lines, after, laid}
use Rattle.tables.specs.Tables.{too_large, repeated, first_large, first_repeated, on_table}
use Rattle.texts.specs.Texts.{ascii}
use Rattle.serials.specs.SerialTexts.{is_digit, is_mark, with_digit, follows, byte_before, number_to, number_start, numbers_to, numbers_of, can_stand, wrong_byte, wrong_place, first_wrong_byte, on_bytes, entries_answer, end_answer, end_table}
use Rattle.cases.specs.SerialCases.{SerialCase, serial_cases}

pub texts_answered : map (λ (c : SerialCase). end_answer 1 c.text 3) serial_cases ≡ map (λ (c : SerialCase). c.answer) serial_cases
unfolding some first refusing lines_ok on_lines
    too_large repeated first_large first_repeated on_table
    is_digit is_mark with_digit follows byte_before number_to number_start numbers_to numbers_of
    can_stand wrong_byte wrong_place first_wrong_byte on_bytes entries_answer end_answer
texts_answered = refl

pub small_table : end_answer 1 (ascii "1 2 0\n") 2 ≡ refused 5 3
unfolding some first refusing lines_ok on_lines
    too_large repeated first_large first_repeated on_table
    is_digit is_mark with_digit follows byte_before number_to numbers_to numbers_of
    can_stand wrong_byte first_wrong_byte on_bytes entries_answer end_answer
small_table = refl

pub large_table : end_table 1 (ascii "1 2 0\n") (7 ∷ 7 ∷ 7 ∷ 7 ∷ []) ≡ 1 ∷ 2 ∷ 0 ∷ 7 ∷ []
unfolding some first refusing lines_ok on_lines after laid
    too_large repeated first_large first_repeated on_table
    is_digit is_mark with_digit follows byte_before number_to numbers_to numbers_of
    can_stand wrong_byte first_wrong_byte on_bytes entries_answer end_answer end_table
large_table = refl
