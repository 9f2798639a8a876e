-- Request 4 of document 02: short texts for a table on one line, a room of three entries, and what each is answered; and how the lent table is left.
use Rattle.std.specs.Prelude.{ℕ, List, [], ◌∷◌}
use Prim.Native.String.{String}
use Rattle.card.specs.Card.{Answer, Answer.accepted, Answer.refused}
use Rattle.texts.specs.Texts.{ascii}

-- a text and its answer
pub record SerialCase : Type 0 where
  pub text : List ℕ
  pub answer : Answer

abbrev taken : String → SerialCase
taken s = record { text = ascii s; answer = accepted (3 ∷ []) }

abbrev refuses : String → ℕ → ℕ → SerialCase
refuses s k p = record { text = ascii s; answer = refused k p }

abbrev pub serial_cases : List SerialCase
serial_cases =
    taken "1 2 0\n" ∷ taken "1\n2\n0\n" ∷ taken "2\n1 0\n"
    -- an end not straight after a newline, no byte at all among them
    ∷ refuses "" 14 0 ∷ refuses "1 2 0" 14 5 ∷ refuses "1 2 0 " 14 6
    -- a mark too many, first, between and last; other bytes
    ∷ refuses " 1 2 0\n" 14 0 ∷ refuses "1  2 0\n" 14 2 ∷ refuses "1 2 0\n\n" 14 6 ∷ refuses "1\t2 0\n" 14 1 ∷ refuses "-1 2 0\n" 14 0
    -- leading zeros
    ∷ refuses "007 2 0\n" 14 1 ∷ refuses "1 2 00\n" 14 5
    -- a number above 65,535 at its first byte, which the fifth or sixth digit shows; before that a wrong byte is at its own place
    ∷ refuses "65536 2 0\n" 14 0 ∷ refuses "1 655350 0\n" 14 2 ∷ refuses "99999x" 14 0 ∷ refuses "9999x" 14 4
    -- 2, 3 and 4 of what is a text
    ∷ refuses "1 2\n" 2 0 ∷ refuses "1 2 0 1\n" 2 0 ∷ refuses "65535 2 0\n" 3 0 ∷ refuses "1 1 3\n" 3 2 ∷ refuses "1 2 1\n" 4 2 ∷ []
