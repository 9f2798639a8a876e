-- The lines of request 1 are told right, and the vector of 003 in its own names is what writing its gates gives: computed, the lines by the one gate that
-- each can be. Assumes nothing.
use Prim.Native.Nat.{ℕ}
use mathlib.Core.Path.{◌≡◌, refl, ap₂, ◌∙◌}
use mathlib.Core.Bool.{Bool, ◌&&◌}
use mathlib.Core.List.{List, [], ◌∷◌, map}
use native.Mathlib.Omega.{arith}
use Rattle.ranges.specs.Ranges.{every, sum, first, span}
use Rattle.digits.specs.Digits.{digit, pack}
use Rattle.gates.specs.Records.{line_ok, lines_ok_at, packed_at, is_record, gate_at, record_of}
use Rattle.cascades.specs.Cascades.{gates_of}
use Rattle.texts.specs.Texts.{width, decimal, joined}
use Rattle.texts.specs.GateTexts.{line_text, control_text, gate_text, gate_texts}
use Rattle.names.specs.Names.{other_name, same_text, good}
use Rattle.names.specs.Inner.Guesses.{operator_in, stands, behind_controls, control_in, guessed}
use Rattle.names.proofs.GoodLines.{good_by_guess}
use Rattle.cases.specs.Cases.{gates_003}
use Rattle.cases.specs.NamedLines.{NamedLine, named_lines, names_003}

abbrev by_guess : List ℕ → Bool
by_guess l = is_record 3 (record_of (guessed l)) 0 && same_text (gate_text other_name (guessed l)) l

all_by_guess : (ls : List NamedLine) → map (λ (l : NamedLine). good 3 l.text) ls ≡ map (λ (l : NamedLine). by_guess l.text) ls
all_by_guess [] = refl
all_by_guess (l ∷ ls) = ap₂ (λ (b : Bool) (bs : List Bool). b ∷ bs) (good_by_guess 3 (omega arith) l.text) (all_by_guess ls)

guesses_right : map (λ (l : NamedLine). by_guess l.text) named_lines ≡ map (λ (l : NamedLine). l.is_good) named_lines
unfolding every sum first span
    digit pack
    line_ok lines_ok_at is_record record_of
    width decimal joined
    line_text control_text gate_text
    other_name same_text
    operator_in stands behind_controls control_in guessed
guesses_right = refl

pub lines_told : map (λ (l : NamedLine). good 3 l.text) named_lines ≡ map (λ (l : NamedLine). l.is_good) named_lines
lines_told = all_by_guess named_lines ∙ guesses_right

pub vector_in_its_names : gate_texts other_name (gates_of gates_003) ≡ names_003
unfolding every sum first span
    digit pack
    packed_at gate_at gates_of
    width decimal joined
    line_text control_text gate_text gate_texts
    other_name
vector_in_its_names = refl
