-- A gate on planes. `every_next` is one turn of the loop over the lines that finds where a gate fires, `turned_line` says what a line's planes show after an
-- operator, and `gate_shown` that planes then show what the gate makes of each pattern that they showed. Assumes nothing.
use Rattle.std.proofs.Common.{◌≡◌, refl, sym, ap, ◌∙◌, Bool, true, false, cond, not, ◌&&◌, ◌||◌, List, [], ◌∷◌, ℕ, zero, suc, ◌+◌, ◌≤◌, ◌<◌, length, get_or, set, arith}
use Rattle.std.specs.Bool.{beq}
use Rattle.std.proofs.Math.Bool.{and-true, and_assoc}
use Rattle.std.proofs.Math.Nat.{zero-add, add-zero}
use Rattle.std.proofs.Math.Numerals.{add-one}
use Rattle.std.proofs.lemmas.List.{get_or-set_same, get_or-set_other}
use Rattle.std.proofs.Math.Decide.{ℕ_discrete}
use Rattle.ranges.specs.Ranges.{every}
use Rattle.ranges.proofs.Bools.{cond_lt}
use Rattle.ranges.proofs.Triples.{triple_at, beq_same}
use Rattle.digits.specs.Digits.{digit}
use Rattle.digits.proofs.Digits.{digit_put_same, digit_put_other}
use Rattle.digits.proofs.ThreeCases.{three}
use Rattle.gates.specs.declared.Gate.{Gate}
use Rattle.gates.specs.Gates.{act, inverse_op, holds, applied}
use Rattle.gates.specs.Inner.Firing.{fires}
use Rattle.gates.proofs.Operators.{act_lt}
use Rattle.gates.proofs.Gates.{applied_yes, applied_no, holds_none}
use Rattle.tabulating.specs.Inner.Planes.{member, PlaneHas, LineShows, Shows}

every_snoc : (f : ℕ → Bool) (i m : ℕ) → every f i (suc m) ≡ (every f i m && f (i + m))
unfolding every
every_snoc f i zero = rw (add-zero i) (and-true (f i))
every_snoc f i (suc m) =
    let e : i + 1 + m ≡ i + suc m = omega arith in
    rw (every_snoc f (i + 1) m, e) (sym (and_assoc (f i) (every f (i + 1) m) (f (i + suc m))))

-- one line more
pub every_next : (f : ℕ → Bool) (m : ℕ) → every f 0 (m + 1) ≡ (every f 0 m && f m)
every_next f m = rw (add-one m, every_snoc f 0 m, zero-add m)

-- d is what an operator makes of a digit exactly if that digit is what its inverse makes of d
taken : (o d x : ℕ) → 1 ≤ o → o ≤ 5 → d < 3 → x < 3 → holds d (act o x) ≡ holds (act (inverse_op o) d) x
unfolding act inverse_op holds every
taken zero d x low high ld lx = absurd (omega arith)
taken (suc o) d x low high ld lx =
    beq_same _ _
    (triple_at (λ o d x. beq (holds d (act (suc o) x)) (holds (act (inverse_op (suc o)) d) x)) 5 3 3 refl o d x (omega arith) ld lx)

-- other lines stay
other_line : (g : Gate) (p k : ℕ) → (k ≡ g.target → ⊥) → digit 3 k (applied g p) ≡ digit 3 k p
other_line g p k ne = go (fires g p) refl
  where
    go : (b : Bool) → fires g p ≡ b → digit 3 k (applied g p) ≡ digit 3 k p
    go true e = rw (applied_yes g p e) (digit_put_other 3 k g.target p _ (act_lt g.operator (digit 3 g.target p)) ne)
    go false e = rw (applied_no g p e)

-- a digit is 2 exactly if it is neither 0 nor 1
holds_two : (y : ℕ) → y < 3 → not (holds 0 y || holds 1 y) ≡ holds 2 y
unfolding holds
holds_two = three (λ y. not (holds 0 y || holds 1 y) ≡ holds 2 y) refl refl refl

-- ---- a line's planes after an operator, where it fires

module _ (n : ℕ) (line : List (List ℕ)) (firing : List ℕ) (x : ℕ → ℕ) (t : ℕ → Bool) (o : ℕ) (shows : LineShows n line x) (has : PlaneHas n firing t) (low : 1 ≤ o) (high : o ≤ 5) where
  after : ℕ → ℕ
  after p = cond (t p) (act o (x p)) (x p)

  after_lt : (p : ℕ) → after p < 3
  unfolding after
  after_lt p = cond_lt (t p) (act_lt o (x p)) (shows.low p)

  -- the plane for d
  turned_plane : (d s : ℕ) (new : List ℕ) → d < 3 → s ≡ act (inverse_op o) d
      → ((p : ℕ) → p < 768 → member new p ≡ cond (member firing p) (member (get_or line s []) p) (member (get_or line d []) p)) → PlaneHas n new (λ p. holds d (after p))
  unfolding after
  turned_plane d s new ld es turned p lp =
      let few = shows.few in
      let ls : s < 3 = rw es (act_lt (inverse_op o) d) in
      turned p (omega arith) ∙ rw (has p lp, shows.plane s (omega arith) p lp, shows.plane d (omega arith) p lp, es) (go (t p))
    where
      go : (b : Bool) → cond b (holds (act (inverse_op o) d) (x p)) (holds d (x p)) ≡ holds d (cond b (act o (x p)) (x p))
      go true = sym (taken o d (x p) low high ld (shows.low p))
      go false = refl

  pub turned_line : (s₀ s₁ : ℕ) (zero one two : List ℕ) → s₀ ≡ act (inverse_op o) 0 → s₁ ≡ act (inverse_op o) 1
      → ((p : ℕ) → p < 768 → member zero p ≡ cond (member firing p) (member (get_or line s₀ []) p) (member (get_or line 0 []) p))
      → ((p : ℕ) → p < 768 → member one p ≡ cond (member firing p) (member (get_or line s₁ []) p) (member (get_or line 1 []) p))
      → ((p : ℕ) → p < 768 → member two p ≡ not (member zero p || member one p))
      → LineShows n (zero ∷ one ∷ two ∷ get_or line 3 [] ∷ []) (λ p. cond (t p) (act o (x p)) (x p))
  unfolding after
  turned_line s₀ s₁ zeros ones twos e₀ e₁ zero_is one_is two_is = record { few = shows.few; low = after_lt; plane = plane }
    where
      zero_has : PlaneHas n zeros (λ p. holds 0 (after p))
      zero_has = turned_plane 0 s₀ zeros (omega arith) e₀ zero_is

      one_has : PlaneHas n ones (λ p. holds 1 (after p))
      one_has = turned_plane 1 s₁ ones (omega arith) e₁ one_is

      plane : (c : ℕ) → c < 4 → PlaneHas n (get_or (zeros ∷ ones ∷ twos ∷ get_or line 3 [] ∷ []) c []) (λ p. holds c (after p))
      plane zero lc p lp = zero_has p lp
      plane (suc zero) lc p lp = one_has p lp
      plane (suc (suc zero)) lc p lp =
          let few = shows.few in
          two_is p (omega arith) ∙ rw (zero_has p lp, one_has p lp) (holds_two (after p) (after_lt p))
      plane (suc (suc (suc zero))) lc p lp = shows.plane 3 (omega arith) p lp ∙ rw (holds_none, holds_none)
      plane (suc (suc (suc (suc c)))) lc p lp = absurd (omega arith)

-- ---- all lines

line_ext : (n : ℕ) (line : List (List ℕ)) (x y : ℕ → ℕ) → ((p : ℕ) → x p ≡ y p) → LineShows n line x → LineShows n line y
line_ext n line x y e shows =
    record { few = shows.few; low = λ p. rw (← e p) (shows.low p); plane = λ c lc p lp. shows.plane c lc p lp ∙ ap (λ (z : ℕ). holds c z) (e p) }

pub shows_ext : (n : ℕ) (b : List (List (List ℕ))) (f h : ℕ → ℕ) → ((p : ℕ) → f p ≡ h p) → Shows n b f → Shows n b h
shows_ext n b f h e shows = record { few = shows.few; line = λ k lk. line_ext n _ _ _ (λ p. ap (digit 3 k) (e p)) (shows.line k lk) }

-- the target after the gate
target_line : (g : Gate) (p : ℕ) → cond (fires g p) (act g.operator (digit 3 g.target p)) (digit 3 g.target p) ≡ digit 3 g.target (applied g p)
target_line g p = go (fires g p) refl
  where
    go : (b : Bool) → fires g p ≡ b → cond b (act g.operator (digit 3 g.target p)) (digit 3 g.target p) ≡ digit 3 g.target (applied g p)
    go true e = rw (applied_yes g p e, digit_put_same 3 g.target p _ (act_lt g.operator (digit 3 g.target p)))
    go false e = rw (applied_no g p e)

pub gate_shown : (g : Gate) (n : ℕ) (b : List (List (List ℕ))) (line : List (List ℕ)) (f : ℕ → ℕ) → g.target < length b → Shows n b f
    → LineShows n line (λ p. cond (fires g (f p)) (act g.operator (digit 3 g.target (f p))) (digit 3 g.target (f p))) → Shows n (set b g.target line) (λ p. applied g (f p))
gate_shown g n b line f lt shows turned = record { few = shows.few; line = λ k lk. go k lk (ℕ_discrete k g.target) }
  where
    go : (k : ℕ) → k < 6 → Dec (k ≡ g.target) → LineShows n (get_or (set b g.target line) k []) (λ p. digit 3 k (applied g (f p)))
    go k lk (yes e) = rw (e, get_or-set_same b g.target line [] lt) (line_ext n line _ _ (λ p. target_line g (f p)) turned)
    go k lk (no ne) = rw (get_or-set_other b g.target k line [] ne) (line_ext n _ _ _ (λ p. sym (other_line g (f p) k ne)) (shows.line k lk))
