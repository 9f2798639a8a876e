-- What `array::from_fn` makes by a closure that changes no capture: `made_same`. Assumes nothing.
use Rattle.std.proofs.Common.{◌≡◌, ◌∙◌, subst, List, ℕ, zero, suc, ◌+◌, ◌≤◌, ◌<◌, ⊎_elim, get_or, arith}
use Rattle.std.specs.Array.{IsFromFnResult, IsFromFnResultFrom}
use denote.Param.Members.{Mut, Called}
use Rattle.ranges.proofs.Counts.{here_or_later}

module _ {F B : Type 0} (g : Mut F (ℕ × Unit {0}) B) (v : ℕ → B) (f : F) (each : (i : ℕ) (r : B) (f' : F) → Called g f (i, tt) r f' → (r ≡ v i) × (f' ≡ f)) where
  made_from : (ys : List B) (i n : ℕ) → IsFromFnResultFrom g f ys i n → (k : ℕ) (d : B) → i ≤ k → k < i + n → get_or ys k d ≡ v k
  made_from ys i zero made k d le lt = absurd (omega arith)
  made_from ys i (suc n) made k d le lt =
      let this = each i made.1 made.0 made.3 in
      ⊎_elim
      (λ (e : i ≡ k). rw (← e) (made.2.1 d ∙ this.0))
      (λ (later : i < k). made_from ys (i + 1) n (subst (λ (q : F). IsFromFnResultFrom g q ys (i + 1) n) this.1 made.4) k d (omega arith) (omega arith))
      (here_or_later le)

  pub made_same : (ys : List B) (n : ℕ) → IsFromFnResult g f ys n → (k : ℕ) (d : B) → k < n → get_or ys k d ≡ v k
  made_same ys n made k d lt = made_from ys 0 n made.each k d (omega arith) (omega arith)
