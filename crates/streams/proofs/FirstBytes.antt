-- What was read up to so many bytes is that much of what the input had; and a sheet's text, whose first 1,460 bytes say it all (`cut_alike`). Assumes nothing.
use Rattle.std.proofs.Common.{◌≡◌, ℕ, ◌≤◌, ◌<◌, List, ◌++◌, None, Some, IfSome, OnOk, Result, Ok, Err, arith, length, take, sym, ap, ◌∙◌, subst, inl, inr, length-take-le, take_all, append-nil}
use lib.Seq.{take-append-le}
use native.Mathlib.Nat.{eq-or-lt_of_le}
use Rattle.std.specs.declared.option.Option.{Option}
use Rattle.std.specs.Io.KnownBytes.{Appends, Consumes, IsAtEnd}
use Rattle.sheets.specs.Sheets.{sheet_text}
use Rattle.sheets.proofs.Bounds.{cut_alike}

-- n of k bytes were read, and fewer than k only where the input ended
pub first_read : (a b : Option (List ℕ)) (file : List ℕ) (n k : ℕ) → n ≤ k → k ≡ length file → Consumes a b (take n file) → (n < k → IsAtEnd b)
    → IfSome a (λ bytes. take n file ≡ take k bytes)
first_read None b file n k most size read end = tt
first_read (Some xs) None file n k most size read end = absurd read
first_read (Some xs) (Some ys) file n k most size read end =
    let long : length (take n file) ≡ n = length-take-le n file (omega (arith, most, size)) in
    elim (eq-or-lt_of_le most) [
      | inr less ↦
          let whole : xs ≡ take n file = read ∙ ap (λ l. take n file ++ l) (end less) ∙ append-nil (take n file) in
          sym whole ∙ sym (take_all k xs (omega (arith, ap length whole, long, most)))
      | inl same ↦ sym (take_all k (take n file) (omega (arith, long, most))) ∙ sym (take-append-le k (take n file) ys (omega (arith, long, same))) ∙ ap (take k) (sym read)
    ]

-- what was made of the bytes read is what is made of that much of the input
pub made_of_first : {E : Type 0} (r : Result (Unit {0}) E) (make : List ℕ → List ℕ) (a b old new : Option (List ℕ)) (file made : List ℕ) (n k : ℕ) → n ≤ k
    → k ≡ length file → Consumes a b (take n file) → (n < k → IsAtEnd b) → made ≡ make (take n file) → OnOk r (Appends old new made)
    → OnOk r (IfSome a (λ bytes. Appends old new (make (take k bytes))))
made_of_first (Err e) make a b old new file made n k most size read end is written = tt
made_of_first (Ok x) make None b old new file made n k most size read end is written = tt
made_of_first (Ok x) make (Some xs) b old new file made n k most size read end is written =
    subst (Appends old new) (is ∙ ap make (first_read (Some xs) b file n k most size read end)) written

pub whole_text : {E : Type 0} (r : Result (Unit {0}) E) (known old new : Option (List ℕ))
    → OnOk r (IfSome known (λ bytes. Appends old new (sheet_text (take 1460 bytes)))) → OnOk r (IfSome known (λ bytes. Appends old new (sheet_text bytes)))
whole_text (Err e) known old new p = tt
whole_text (Ok x) None old new p = tt
whole_text (Ok x) (Some bytes) old new p = subst (Appends old new) (cut_alike bytes) p
