-- A text that `split_inclusive` cuts behind each newline gives its lines. Assumes nothing.
use denote.Param.Members.{Mut}
use denote.Ref.{Bor}
use Rattle.std.proofs.Common.{◌≡◌, ℕ, ◌+◌, ◌<◌, min, Bool, eqb, List, ◌∷◌, ◌++◌, length, refl, sym, ap, subst, ◌∙◌, Option, arith}
use Rattle.std.specs.Fn.{ComputesKey, CalledAt}
use Rattle.std.specs.List.{IsFirstMatchOrLen}
use Rattle.std.specs.Option.{MatchOption}
use Rattle.std.specs.declared.slice.SplitInclusive.{SplitInclusive}
use Rattle.std.specs.Slice.Iter.{split_inclusive_rest, split_inclusive_callee}
use Rattle.std.proofs.lemmas.Fn.{always_returns_same}
use Rattle.std.proofs.lemmas.Iterator.{YieldsList}
use Rattle.std.proofs.lemmas.Iterator.Splits.{YieldsList-from_shown_while}
use Rattle.std.proofs.lemmas.List.{nil_from_length}
use Rattle.names.specs.Names.{text_lines}
use Rattle.names.proofs.TextLines.{lines_nil, cut_line}

module _ {F : Type 0} (g : Mut F (Bor ℕ × Unit {0}) Bool) where
  -- one step, as `std` has it
  abbrev pub steps : SplitInclusive ℕ F → Option (Bor (List ℕ)) → SplitInclusive ℕ F → Type 0
  steps s r t = MatchOption r ((length (split_inclusive_rest s) ≡ 0) × (t ≡ s))
      (λ x. (split_inclusive_rest s ≡ x.now ++ split_inclusive_rest t)
      × ((i : ℕ) × (length x.now ≡ min (i + 1) (length (split_inclusive_rest s))) × ((p : ℕ → Bool) → ComputesKey g p (split_inclusive_callee s) → ComputesKey g p (split_inclusive_callee t) × IsFirstMatchOrLen p (split_inclusive_rest s) i))
      × (0 < length (split_inclusive_rest s)))

  abbrev newline : ℕ → Bool
  newline c = eqb c 10

  cut : (rest line more : List ℕ) (i : ℕ) → rest ≡ line ++ more → 0 < length rest → length line ≡ min (i + 1) (length rest) → IsFirstMatchOrLen newline rest i
      → text_lines rest ≡ line ∷ text_lines more
  cut rest line more i e some long found =
      rw e (cut_line line more i (rw e at some) (rw e at long) (λ k lt. rw (← e) (found.0 k 0 (omega arith) lt)) (λ lt. rw (← e) (found.1 (rw (← e) at lt) 0)))

  pub split_lines : {s : SplitInclusive ℕ F} {f : F} (t : List ℕ) → split_inclusive_rest s ≡ t → split_inclusive_callee s ≡ f
      → ((x : ℕ) (b : Bool) (q : F) → CalledAt g f x b q → (q ≡ f) × (b ≡ eqb x 10)) → YieldsList steps (λ x. x.now) s (text_lines t)
  split_lines {s} {f} t rest closure tests =
      subst (YieldsList steps (λ x. x.now) s) (ap text_lines rest)
      (YieldsList-from_shown_while steps (λ x. x.now) (λ u. text_lines (split_inclusive_rest u)) (λ u. ComputesKey g newline (split_inclusive_callee u))
      (λ u v h k. ap length (ap text_lines (nil_from_length _ k.0) ∙ lines_nil))
      (λ u x v h k. let m = k.1.2 newline h in (m.0, cut _ _ _ _ k.0 k.2 k.1.1 m.1))
      s (subst (ComputesKey g newline) (sym closure) (always_returns_same g (λ a r. r ≡ newline a.0.now) f (λ a r q k. let m = tests a.0.now r q (record { shown = a.0; shows = refl; called = k }) in (m.1, m.0)))))
