-- The grammar of a text: numbers of 16 bits in decimal, each with a space or a newline behind it.
use Rattle.std.specs.Prelude.{ℕ, ◌≤◌, ◌≡◌, true, List, [], ◌∷◌, ◌++◌, length}
use Rattle.texts.specs.Texts.{decimal}
use Rattle.serials.specs.SerialTexts.{is_mark, byte_before}

-- t is a text of the numbers xs
pub data TextOf : List ℕ → List ℕ → Type 0 where
  none : TextOf [] []
  number : {t xs : List ℕ} (x mark : ℕ) → TextOf t xs → x ≤ 65535 → is_mark mark ≡ true → TextOf (t ++ decimal x ++ (mark ∷ [])) (xs ++ (x ∷ []))

-- a text of numbers begins with p
pub record Begins (p : List ℕ) : Type 0 where
  pub rest : List ℕ
  pub numbers : List ℕ
  pub text : TextOf (p ++ rest) numbers

-- t is such a text as the trays send it: a newline at the end, and at most 65,535 bytes
pub record SentAs (t xs : List ℕ) : Type 0 where
  pub text : TextOf t xs
  pub newline : byte_before t (length t) ≡ 10
  pub short : length t ≤ 65535
