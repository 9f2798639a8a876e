use Rattle.std.proofs.Common.{◌≡◌, ℕ, ◌-◌, ◌/◌, ◌^◌, ◌≤◌, List, length}
use Rattle.std.proofs.lemmas.List.Edits.{sets}
use Rattle.ranges.specs.Ranges.{span}
use Rattle.texts.proofs.Decimals.{byte_of}
use Rattle.texts.proofs.storing.Writer.write_decimal.Given as goal

-- the i first of the w bytes are left, and what was found of x is taken off it
pub record Going (x : ℕ) (digits₀ : List ℕ) (w : ℕ) (digits : List ℕ) (rest i : ℕ) : Type 0 where
  pub within : i ≤ w
  pub long : length digits ≡ w
  pub taken : rest ≡ x / 10 ^ (w - i)
  pub left : sets digits 0 (span (byte_of x w) 0 i) ≡ sets digits₀ 0 (span (byte_of x w) 0 w)

abbrev pub invariant-loop-i : goal.invariant-loop-i
invariant-loop-i l =
    Going l.x l.initial.digits (length l.initial.digits) l.digits l.rest l.i
