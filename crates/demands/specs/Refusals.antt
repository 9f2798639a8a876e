-- The refusal card of documents 01 and 02, a definition for each row: when it is given, and its place; and the rows of the two calls that hand a
-- reference back.
use Rattle.std.specs.Prelude.{ℕ, ◌+◌, ◌^◌, ◌<◌, ◌≡◌, Bool, true, cond, not, ◌&&◌, ◌||◌, List, [], ◌∷◌, eqb, leb, ltb, length, get_or}
use Rattle.card.specs.Card.{lines_ok}
use Rattle.gates.specs.declared.Gate.{Gate}
use Rattle.gates.specs.Gates.{IsGate}
use Rattle.gates.specs.Records.{is_record}
use Rattle.tables.specs.Tables.{first_large, first_repeated}
use Rattle.cascades.specs.Cascades.{records, gates_of}
use Rattle.cascades.specs.Answers.{length_ok, first_bad}
use Rattle.boards.specs.Boards.{set_ok}
use Rattle.choice.specs.Choice.{first_difference}
use Rattle.files.specs.Files.{lines_in, records_of, frame_ok}
use Rattle.readers.specs.Readers.{record_stands}
use Rattle.texts.specs.GateTexts.{gate_text}
use Rattle.names.specs.Names.{other_name, text_lines, first_wrong}
use Rattle.serials.specs.SerialTexts.{byte_before, wrong_place, first_wrong_byte}
use Rattle.demands.specs.CardRows.{Row}

-- lines not 1 to 6
abbrev pub row1 : ℕ → Row
row1 n = record { applies = not (lines_ok n); number = 1; place = 0 }

-- table length isn't 3^n
abbrev pub row2 : ℕ → ℕ → Row
row2 n len = record { applies = not (eqb len (3 ^ n)); number = 2; place = 0 }

-- an entry is 3^n or more: the first such entry
abbrev pub row3 : ℕ → List ℕ → Row
row3 n t = record { applies = ltb (first_large (3 ^ n) t) (length t); number = 3; place = first_large (3 ^ n) t }

-- an entry equals an earlier one: the first such entry
abbrev pub row4 : List ℕ → Row
row4 t = record { applies = ltb (first_repeated t) (length t); number = 4; place = first_repeated t }

-- room too small: the size needed
abbrev pub row5 : ℕ → ℕ → Row
row5 have need = record { applies = ltb have need; number = 5; place = need }

-- cascade length no multiple of 8, or over 8,000 gates
abbrev pub row6 : List ℕ → Row
row6 b = record { applies = not (length_ok (length b)); number = 6; place = 0 }

-- a text has more than 8,000 lines
abbrev pub row6_lines : List ℕ → Row
row6_lines t = record { applies = ltb 8000 (length (text_lines t)); number = 6; place = 0 }

-- a record isn't a gate on n lines: the first such gate
abbrev pub row7 : ℕ → List ℕ → Row
row7 n b = record { applies = ltb (first_bad is_record n b) (records b); number = 7; place = first_bad is_record n b }

-- the record where a reader stands isn't one: its byte offset
abbrev pub row7_next : ℕ → List ℕ → ℕ → ℕ → Row
row7_next n f at end = record { applies = record_stands f at end && not (is_record n f at); number = 7; place = at }

-- pattern is 3^n or more
abbrev pub row8 : ℕ → ℕ → Row
row8 n p = record { applies = leb (3 ^ n) p; number = 8; place = 0 }

-- file frame wrong
abbrev pub row9 : List ℕ → Row
row9 f = record { applies = not (frame_ok 8 1 f); number = 9; place = 0 }

-- note over 1,024 bytes
abbrev pub row9_note : List ℕ → Row
row9_note note = record { applies = ltb 1024 (length note); number = 9; place = 0 }

-- global control value above 2
abbrev pub row10 : ℕ → Row
row10 v = record { applies = ltb 2 v; number = 10; place = 0 }

-- two cascades compute different tables: the first input on which they differ
abbrev pub row11 : ℕ → List Gate → List Gate → Row
row11 n gs hs = record { applies = ltb (first_difference n gs hs) (3 ^ n); number = 11; place = first_difference n gs hs }

-- a line of a text isn't that of a gate on n lines: the first such line
abbrev pub row12 : ℕ → List ℕ → Row
row12 n t = record { applies = ltb (first_wrong n (text_lines t)) (length (text_lines t)); number = 12; place = first_wrong n (text_lines t) }

-- the fitted set isn't a non-empty subset of D, E, N
abbrev pub row13 : ℕ → Row
row13 s = record { applies = not (set_ok s); number = 13; place = 0 }

-- a byte of a text can't stand there, or shows a number above 65,535: the first such byte, or that number's first
abbrev pub row14_byte : List ℕ → Row
row14_byte t = record { applies = ltb (first_wrong_byte t) (length t); number = 14; place = wrong_place t (first_wrong_byte t) }

-- a text ends not straight after a newline: its length
abbrev pub row14_end : List ℕ → Row
row14_end t = record { applies = not (eqb (byte_before t (length t)) 10); number = 14; place = length t }

-- 1 10 13, 6 7 of the first, 6 7 of the second, 11
abbrev pub choice_rows : ℕ → ℕ → ℕ → List ℕ → List ℕ → List Row
choice_rows n v s b c = row1 n ∷ row10 v ∷ row13 s ∷ row6 b ∷ row7 n b ∷ row6 c ∷ row7 n c ∷ row11 n (gates_of b) (gates_of c) ∷ []

-- 9 1 6 7
abbrev pub opening_rows : List ℕ → List Row
opening_rows f = row9 f ∷ row1 (lines_in f) ∷ row6 (records_of 8 f) ∷ row7 (lines_in f) (records_of 8 f) ∷ []

-- entry i of a table equals an earlier one
pub record Repeats (t : List ℕ) (i : ℕ) : Type 0 where
  pub earlier : ℕ
  pub before : earlier < i
  pub equal : get_or t earlier 0 ≡ get_or t i 0

-- s is the number of a non-empty subset of D, E, N: D 1, E 2, N 4, added
pub record SubsetNumber (s : ℕ) : Type 0 where
  pub d : Bool
  pub e : Bool
  pub n : Bool
  pub not_empty : (d || e || n) ≡ true
  pub added : s ≡ cond d 1 0 + cond e 2 0 + cond n 4 0

-- l is the line of a gate on n lines, in document 003's names
pub record LineOf (n : ℕ) (l : List ℕ) : Type 0 where
  pub gate : Gate
  pub is : IsGate n gate
  pub text : l ≡ gate_text other_name gate
