-- Two texts that are the same: what the test says. Assumes nothing.
use Rattle.std.proofs.Common.{◌≡◌, refl, sym, ap, ◌∙◌, Bool, true, false, List, ℕ, arith, eqb, length, get_or, eqb-true, eq-eqb}
use Rattle.ranges.specs.Ranges.{span}
use Rattle.ranges.proofs.Bools.{and_left, and_right, and_both}
use Rattle.ranges.proofs.Tests.{every_below, every_of}
use Rattle.ranges.proofs.Spans.{span_ext}
use Rattle.ranges.proofs.Parts.{span_list}
use Rattle.std.specs.Bool.{Decides}
use Rattle.names.specs.Names.{same_text}

pub same_is : (a b : List ℕ) → same_text a b ≡ true → a ≡ b
unfolding same_text
same_is a b e =
    let l = eqb-true (length a) (length b) (and_left (eqb (length a) (length b)) _ e) in
    let h = every_below (λ k. eqb (get_or a k 0) (get_or b k 0)) (length a) (and_right (eqb (length a) (length b)) _ e) in
    sym (span_list a 0)
    ∙ span_ext (λ k. get_or a k 0) (λ k. get_or b k 0) 0 (length a) (λ k le lt. eqb-true (get_or a k 0) (get_or b k 0) (h k (omega arith)))
    ∙ ap (span (λ k. get_or b k 0) 0) l ∙ span_list b 0

pub same_self : (a : List ℕ) → same_text a a ≡ true
unfolding same_text
same_self a =
    and_both (eqb (length a) (length a)) _ (eq-eqb (length a) (length a) refl) (every_of (λ k. eqb (get_or a k 0) (get_or a k 0)) (length a) (λ k lt. eq-eqb (get_or a k 0) (get_or a k 0) refl))

-- what `==` says
pub same_decides : (a b : List ℕ) (r : Bool) → Decides r (a ≡ b) → r ≡ same_text a b
same_decides a b true h = sym (rw (h.0 refl) (same_self b))
same_decides a b false h = go (same_text a b) refl
  where
    go : (x : Bool) → same_text a b ≡ x → false ≡ x
    go true e = h.1 (same_is a b e)
    go false e = refl
