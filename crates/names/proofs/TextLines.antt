-- The lines of a text: joined they are the text, and a part without newline and a newline is the first. Assumes nothing.
use Rattle.std.proofs.Common.{◌≡◌, ℕ, suc, zero, ◌+◌, ◌≤◌, ◌<◌, min, Bool, true, false, cond, eqb, List, [], ◌∷◌, ◌++◌, length, get_or, refl, sym, ap, ◌∙◌, arith, eqb-true, ne_eqb, eq-eqb}
use Rattle.std.proofs.lemmas.Bool.{true≢false}
use Rattle.ranges.specs.Lists.{Each}
use Rattle.texts.specs.Texts.{joined}
use Rattle.names.specs.Names.{before_first, text_lines}

-- ---- the lines, joined

before_first_joined : (c : ℕ) (ls : List (List ℕ)) → joined (before_first c ls) ≡ c ∷ joined ls
unfolding joined before_first
before_first_joined c [] = refl
before_first_joined c (l ∷ ls) = refl

pub lines_joined : (t : List ℕ) → joined (text_lines t) ≡ t
unfolding joined text_lines
lines_joined [] = refl
lines_joined (c ∷ t) = go (lines_joined t) (eqb c 10)
  where
    go : joined (text_lines t) ≡ t → (b : Bool) → joined (cond b ((c ∷ []) ∷ text_lines t) (before_first c (text_lines t))) ≡ c ∷ t
    go h true = ap (λ (x : List ℕ). c ∷ x) h
    go h false = before_first_joined c (text_lines t) ∙ ap (λ (x : List ℕ). c ∷ x) h

-- ---- one byte

pub lines_nil : text_lines [] ≡ []
unfolding text_lines
lines_nil = refl

pub lines_newline : (c : ℕ) (t : List ℕ) → c ≡ 10 → text_lines (c ∷ t) ≡ (c ∷ []) ∷ text_lines t
unfolding text_lines
lines_newline c t e = rw (eq-eqb c 10 e)

pub lines_other : (c : ℕ) (t : List ℕ) → (c ≡ 10 → ⊥) → text_lines (c ∷ t) ≡ before_first c (text_lines t)
unfolding text_lines
lines_other c t ne = rw (ne_eqb c 10 ne)

-- ---- a part without newline

abbrev pub Plain : List ℕ → Type 0
Plain p = Each (λ c. c ≡ 10 → ⊥) p

-- its bytes before the first line
unfoldable pub before : List ℕ → List (List ℕ) → List (List ℕ)
before [] ls = ls
before (c ∷ p) ls = before_first c (before p ls)

pub before_line : (p l : List ℕ) (ls : List (List ℕ)) → before p (l ∷ ls) ≡ (p ++ l) ∷ ls
unfolding before before_first
before_line [] l ls = refl
before_line (c ∷ p) l ls = ap (before_first c) (before_line p l ls)

before_snoc : (p : List ℕ) (c : ℕ) (ls : List (List ℕ)) → before (p ++ (c ∷ [])) ls ≡ before p (before_first c ls)
unfolding before
before_snoc [] c ls = refl
before_snoc (x ∷ p) c ls = ap (before_first x) (before_snoc p c ls)

before_nil : (c : ℕ) (p : List ℕ) → before (c ∷ p) [] ≡ (c ∷ p) ∷ []
unfolding before before_first
before_nil c [] = refl
before_nil c (d ∷ p) = ap (before_first c) (before_nil d p)

plain_lines : (p t : List ℕ) → Plain p → text_lines (p ++ t) ≡ before p (text_lines t)
unfolding before
plain_lines [] t ok = refl
plain_lines (c ∷ p) t ok = lines_other c (p ++ t) ok.0 ∙ ap (before_first c) (plain_lines p t ok.1)

-- the first line of a text that begins with such a part and a newline
pub first_line : (p t : List ℕ) → Plain p → text_lines (p ++ (10 ∷ t)) ≡ (p ++ (10 ∷ [])) ∷ text_lines t
first_line p t ok = plain_lines p (10 ∷ t) ok ∙ ap (before p) (lines_newline 10 t refl) ∙ before_line p (10 ∷ []) (text_lines t)

-- ---- a text that is cut: what is cut off goes up to the first newline, which has place i, or to the end

none_ten : (c : ℕ) → eqb c 10 ≡ false → c ≡ 10 → ⊥
none_ten c e q = true≢false (sym (eq-eqb c 10 q) ∙ e)

pub cut_line : (line more : List ℕ) (i : ℕ) → 0 < length (line ++ more) → length line ≡ min (i + 1) (length (line ++ more))
    → ((k : ℕ) → k < i → eqb (get_or (line ++ more) k 0) 10 ≡ false) → (i < length (line ++ more) → eqb (get_or (line ++ more) i 0) 10 ≡ true)
    → text_lines (line ++ more) ≡ line ∷ text_lines more
cut_line [] more i some long none hit = absurd (omega (arith, some, long))
cut_line (c ∷ []) more zero some long none hit = lines_newline c more (eqb-true c 10 (hit (omega arith)))
cut_line (c ∷ d ∷ line) more zero some long none hit = absurd (omega (arith, long))
cut_line (c ∷ []) [] (suc i) some long none hit =
    lines_other c [] (none_ten c (none 0 (omega arith))) ∙ rw lines_nil (unfold before_first in refl)
cut_line (c ∷ []) (d ∷ more) (suc i) some long none hit = absurd (omega (arith, long))
cut_line (c ∷ d ∷ line) more (suc i) some long none hit =
    let rest = cut_line (d ∷ line) more i (omega arith) (omega (arith, long)) (λ k lt. none (suc k) (omega (arith, lt))) (λ lt. hit (omega (arith, lt))) in
    lines_other c (d ∷ line ++ more) (none_ten c (none 0 (omega arith))) ∙ rw rest (unfold before_first in refl)

-- no text has more lines than bytes
pub lines_few : (t : List ℕ) → length (text_lines t) ≤ length t
unfolding text_lines before_first
lines_few [] = omega arith
lines_few (c ∷ t) = go (text_lines t) (lines_few t) (eqb c 10)
  where
    go : (ls : List (List ℕ)) → length ls ≤ length t → (b : Bool) → length (cond b ((c ∷ []) ∷ ls) (before_first c ls)) ≤ suc (length t)
    go ls le true = omega (arith, le)
    go [] le false = omega arith
    go (l ∷ ls) le false = omega (arith, le)
