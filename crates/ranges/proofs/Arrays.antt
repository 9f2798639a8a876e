-- An array that a pure closure made, entry by entry: each entry is what the closure gives there. Rattle finds this alone for a short array.
-- Assumes nothing.
use Rattle.std.proofs.Common.{◌≡◌, ℕ, zero, suc, ◌+◌, ◌≤◌, ◌<◌, List, get_or, ◌∙◌, subst, arith}
use Rattle.std.specs.Array.{IsFromFnResultFrom, IsFromFnResult}
use denote.Param.Members.{Mut, Called}
use Rattle.ranges.proofs.Counts.{here_or_later}
use mathlib.Core.Logic.{⊎_elim}

module _ {F B : Type 0} (g : Mut F (ℕ × Unit {0}) B) (f : F) (ys : List B) (n : ℕ) (made : ℕ → B)
    (gives : (i : ℕ) (y : B) (q : F) → i < n → Called g f (i, tt) y q → (q ≡ f) × (y ≡ made i)) where
  from_place : (i m : ℕ) → i + m ≤ n → IsFromFnResultFrom g f ys i m → (k : ℕ) (d : B) → i ≤ k → k < i + m → get_or ys k d ≡ made k
  from_place i zero fits each k d le lt = absurd (omega arith)
  from_place i (suc m) fits (q, y, at, call, rest) k d le lt =
      let is = gives i y q (omega arith) call in
      ⊎_elim (λ (e : i ≡ k). rw (← e) (at.1 d ∙ is.1))
      (λ (l : i < k). from_place (i + 1) m (omega arith) (subst (λ (p : F). IsFromFnResultFrom g p ys (i + 1) m) is.0 rest) k d (omega arith) (omega arith)) (here_or_later le)

  pub array_entry : IsFromFnResult g f ys n → (k : ℕ) (d : B) → k < n → get_or ys k d ≡ made k
  array_entry r k d lt = from_place 0 n (omega arith) r.each k d (omega arith) (omega arith)
