-- Request 1 of document 02: lines in document 003's names on three lines, and which of them are good; and the vector of 003 in these names.
use Rattle.std.specs.Prelude.{ℕ, Bool, true, false, List, [], ◌∷◌, ◌++◌}
use Prim.Native.String.{String}
use Rattle.texts.specs.Texts.{ascii}

-- a line, and whether it is good
pub record NamedLine : Type 0 where
  pub text : List ℕ
  pub is_good : Bool

abbrev right : String → NamedLine
right s = record { text = ascii s; is_good = true }

abbrev wrong : String → NamedLine
wrong s = record { text = ascii s; is_good = false }

abbrev pub named_lines : List NamedLine
named_lines =
    right "+1 x0\n" ∷ right "+2 x2\n" ∷ right "02 x1 x0=2 x2=0\n" ∷ right "12 x2 x1=1\n" ∷ right "01 x0 x1=0 x2=0\n"
    -- another name, another sign, no name
    ∷ wrong "C1 x0\n" ∷ wrong "-1 x0\n" ∷ wrong "10 x0\n" ∷ wrong "+0 x0\n" ∷ wrong "x0\n"
    -- spaces: behind the line, before it, two, none, a tab
    ∷ wrong "+1 x0 \n" ∷ wrong " +1 x0\n" ∷ wrong "+1  x0\n" ∷ wrong "+1 x0  x1=1\n" ∷ wrong "+1x0\n" ∷ wrong "+1\tx0\n"
    -- controls that fall, stand twice, on the target, on a line that is not there, with the value 3, without a value
    ∷ wrong "+1 x0 x2=1 x1=1\n" ∷ wrong "+1 x0 x1=1 x1=1\n" ∷ wrong "+1 x0 x0=1\n" ∷ wrong "+1 x0 x3=1\n" ∷ wrong "+1 x0 x1=3\n" ∷ wrong "+1 x0 x1=\n" ∷ wrong "+1 x0 x1\n"
    -- a target that is not there, two digits, a large X
    ∷ wrong "+1 x3\n" ∷ wrong "+1 x00\n" ∷ wrong "+1 X0\n"
    -- no newline, a blank line, two newlines, nothing
    ∷ wrong "+1 x0" ∷ wrong "\n" ∷ wrong "+1 x0\n\n" ∷ wrong "" ∷ []

-- the listing that document 01 prints for the vector of 003, without its head line and with the other names
abbrev pub names_003 : List ℕ
names_003 =
    ascii "12 x0 x1=2\n"
    ++ ascii "02 x0 x1=2\n"
    ++ ascii "12 x1 x0=1\n"
    ++ ascii "12 x0 x1=2\n"
    ++ ascii "12 x1 x0=0\n"
    ++ ascii "02 x1 x0=2\n"
    ++ ascii "12 x0 x1=2\n"
    ++ ascii "02 x1 x0=1\n"
    ++ ascii "01 x0 x1=2\n"
    ++ ascii "01 x1 x0=0\n"
    ++ ascii "02 x0 x1=1\n"
