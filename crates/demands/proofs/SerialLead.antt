-- Request 4 of document 02. However a text is cut into parts, empty ones too, the reader is the one that was fed it in one part, and so are the entries, the answer and
-- its place; what was refused stays refused; once the end is told each later call repeats its answer and changes no table; and every table's text is accepted and gives
-- that table. Assumes nothing.
use Prim.Native.Nat.{ℕ, ◌^◌, ◌≤◌}
use mathlib.Core.Path.{◌≡◌, ◌∙◌}
use mathlib.Core.Bool.{true}
use mathlib.Core.List.{List, [], ◌∷◌}
use lib.ListN.{length}
use Rattle.card.specs.Card.{Answer.accepted, Answer.refused, lines_ok, laid}
use Rattle.tables.specs.Permutations.{Permutation}
use Rattle.texts.specs.Texts.{joined}
use Rattle.serials.specs.declared.Serial.{Serial}
use Rattle.serials.specs.SerialTexts.{byte_before, part_answer, end_answer, end_table}
use Rattle.serials.specs.Serials.{standing, started, fed, fed_all, ended, ended_table, Stands}
use Rattle.serials.specs.Grammars.{TextOf}
use Rattle.serials.proofs.Serials.{fed_joined}
use Rattle.serials.proofs.Cuttings.{cut_part, cut_end, cut_table, refused_stands, ended_stands}
use Rattle.serials.proofs.TableTexts.{table_accepted_text, table_in_place}

-- of any reader, made up or not
pub cut_alike : (r : Serial) (parts : List (List ℕ)) → fed_all r parts ≡ fed r (joined parts)
cut_alike = fed_joined

pub refusal_repeats : (r : Serial) (k p : ℕ) → standing r ≡ refused k p → Stands r
refusal_repeats = refused_stands

pub end_repeats : (r : Serial) (room : ℕ) → Stands (ended r room)
end_repeats = ended_stands

-- of a reader that was started: what the definitions on the whole text say, which know of no parts and no reader
pub parts_answer : (n : ℕ) (parts : List (List ℕ)) → standing (fed_all (started n) parts) ≡ part_answer n (joined parts)
parts_answer = cut_part

pub parts_end : (n : ℕ) (parts : List (List ℕ)) (room : ℕ) → standing (ended (fed_all (started n) parts) room) ≡ end_answer n (joined parts) room
parts_end = cut_end

pub parts_table : (n : ℕ) (parts : List (List ℕ)) (table : List ℕ) → ended_table (fed_all (started n) parts) table ≡ end_table n (joined parts) table
parts_table = cut_table

-- a table's numbers in decimal, a space or a newline behind each and a newline at the end, are accepted and give the table
module _ (n : ℕ) (ok : lines_ok n ≡ true) (xs : List ℕ) (whole : Permutation (3 ^ n) xs) (parts : List (List ℕ)) (text : TextOf (joined parts) xs)
    (newline : byte_before (joined parts) (length (joined parts)) ≡ 10) (table : List ℕ) (enough : 3 ^ n ≤ length table) where
  pub table_read : standing (ended (fed_all (started n) parts) (length table)) ≡ accepted (3 ^ n ∷ [])
  table_read = cut_end n parts (length table) ∙ table_accepted_text n ok (joined parts) xs whole text newline (length table) enough

  pub table_laid : ended_table (fed_all (started n) parts) table ≡ laid xs table
  table_laid = cut_table n parts table ∙ table_in_place n ok (joined parts) xs whole text newline table enough
