-- Texts as bytes: literals, numbers in decimal, and texts one after the other.
use Rattle.std.specs.Prelude.{ℕ, ◌+◌, ◌-◌, ◌^◌, List, [], ◌∷◌, ◌++◌, ltb}
use Prim.Native.Char.{code}
use Prim.Native.String.{String}
use Rattle.ranges.specs.Ranges.{first, span}
use Rattle.digits.specs.Digits.{digit}

-- the bytes of a literal
abbrev pub ascii : String → List ℕ
ascii String.[] = []
ascii (String.◌∷◌ c s) = code c ∷ ascii s

-- how many digits a number has in decimal: at least one, and never a leading zero
unfoldable pub width : ℕ → ℕ
width x = first (λ w. ltb x (10 ^ w)) 1 19

-- a number in decimal, highest digit first; 0x30 is the byte of 0
unfoldable pub decimal : ℕ → List ℕ
decimal x = span (λ i. 0x30 + digit 10 (width x - (i + 1)) x) 0 (width x)

-- texts one after the other
unfoldable pub joined : List (List ℕ) → List ℕ
joined [] = []
joined (x ∷ xs) = x ++ joined xs
