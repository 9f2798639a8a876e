-- The planes of inputs that no gate has touched: `untouched_start`, `untouched_next` and `untouched_shows` are the start, one turn for a line and the end of
-- the loop that makes them, `bare_start`, `bare_next` and `bare_all` those of the loop before it, which makes each line bare. Assumes nothing.
use Rattle.std.proofs.Common.{◌≡◌, refl, sym, ◌∙◌, ◌&&◌, ◌||◌, List, [], ◌∷◌, ℕ, zero, suc, ◌+◌, ◌≤◌, ◌<◌, ◌⊎◌, inl, inr, length, get_or, set, length-set, replicate, eqb, ltb, lt-ltb, le-ltb, eq-eqb, ne_eqb, arith}
use Rattle.std.proofs.Math.Bool.{or-false, and-true, and-false}
use Rattle.std.proofs.Math.Decide.{ℕ_discrete}
use Rattle.std.proofs.lemmas.List.{ext_get_or, get_or-replicate, get_or-set_same, get_or-set_other}
use Rattle.ranges.proofs.Counts.{lt_or_le}
use Rattle.digits.specs.Digits.{digit}
use Rattle.digits.proofs.Digits.{digit_lt}
use Rattle.gates.specs.Gates.{holds}
use Rattle.tabulating.specs.Inner.Planes.{member, LineUpTo, ShownUpTo, Shows}
use Rattle.tabulating.proofs.PlaneBits.{all_in, none_in}

-- a line's planes with no input at all
abbrev pub blank_line : List (List ℕ)
blank_line = replicate 4 (replicate 12 0)

-- a line's planes before any input: that for none has all
abbrev pub bare_line : List (List ℕ)
bare_line = replicate 12 0 ∷ replicate 12 0 ∷ replicate 12 0 ∷ replicate 12 0xffff_ffff_ffff_ffff ∷ []

bare_up_to : (k : ℕ) → LineUpTo k bare_line 0
bare_up_to k zero q lc lq = rw (none_in q (omega arith), le-ltb q 0 (omega arith))
bare_up_to k (suc zero) q lc lq = rw (none_in q (omega arith), le-ltb q 0 (omega arith))
bare_up_to k (suc (suc zero)) q lc lq = rw (none_in q (omega arith), le-ltb q 0 (omega arith))
bare_up_to k (suc (suc (suc zero))) q lc lq = rw (all_in q (omega arith))
bare_up_to k (suc (suc (suc (suc c)))) q lc lq = absurd (omega arith)

pub untouched_start : ShownUpTo (replicate 6 bare_line) 0
untouched_start k lk = rw (get_or-replicate 6 k bare_line [] lk) (bare_up_to k)

-- the lines below i are bare, the others blank
pub record BareUpTo (b : List (List (List ℕ))) (i : ℕ) : Type 0 where
  pub long : length b ≡ 6
  pub done : (k : ℕ) → k < i → get_or b k [] ≡ bare_line
  pub left : (k : ℕ) → i ≤ k → k < 6 → get_or b k [] ≡ blank_line

pub bare_start : BareUpTo (replicate 6 blank_line) 0
bare_start = record { long = refl; done = λ k lt. absurd (omega arith); left = λ k le lk. get_or-replicate 6 k blank_line [] lk }

-- a blank line gets its plane for none
pub bare_next : (b : List (List (List ℕ))) (i : ℕ) (new : List (List ℕ)) → i < 6 → new ≡ set (get_or b i []) 3 (replicate 12 0xffff_ffff_ffff_ffff)
    → BareUpTo b i → BareUpTo (set b i new) (i + 1)
bare_next b i new li made up =
    record {
      long = simp length-set up.long;
      done = λ k lt. go k lt (ℕ_discrete k i);
      left = λ k le lk. rw (get_or-set_other b i k new [] (λ e. omega arith)) (up.left k (omega arith) lk);
    }
  where
    bare : new ≡ bare_line
    bare = rw (made, up.left i (omega arith) li) refl

    go : (k : ℕ) → k < i + 1 → Dec (k ≡ i) → get_or (set b i new) k [] ≡ bare_line
    go k lt (yes e) = rw (e, get_or-set_same b i new [] (omega (arith, up.long, li))) bare
    go k lt (no ne) = rw (get_or-set_other b i k new [] ne) (up.done k (omega arith))

pub bare_all : (b : List (List (List ℕ))) (i : ℕ) → 6 ≤ i → BareUpTo b i → b ≡ replicate 6 bare_line
bare_all b i all up =
    ext_get_or [] b (replicate 6 bare_line) up.long
    (λ k lk. let few : k < 6 = omega (arith, up.long, lk) in up.done k (omega arith) ∙ sym (get_or-replicate 6 k bare_line [] few))

-- input p joins a plane of a line
pub plane_joined : (line : List (List ℕ)) (d p : ℕ) (new : List ℕ) → d < length line → ((q : ℕ) → q < 729 → member new q ≡ (member (get_or line d []) q || eqb q p))
    → (c q : ℕ) → q < 729 → member (get_or (set line d new) c []) q ≡ (member (get_or line c []) q || eqb c d && eqb q p)
plane_joined line d p new lt joined c q lq = go (ℕ_discrete c d)
  where
    go : Dec (c ≡ d) → member (get_or (set line d new) c []) q ≡ (member (get_or line c []) q || eqb c d && eqb q p)
    go (yes e) = rw (e, get_or-set_same line d new [] lt, eq-eqb d d refl) (joined q lq)
    go (no ne) = rw (get_or-set_other line d c new [] ne, ne_eqb c d ne, or-false)

-- it joins the plane for what it holds on line k
pub untouched_next : (k p x : ℕ) (old new : List (List ℕ)) → x ≡ digit 3 k p
    → ((c q : ℕ) → q < 729 → member (get_or new c []) q ≡ (member (get_or old c []) q || eqb c x && eqb q p)) → LineUpTo k old p → LineUpTo k new (p + 1)
untouched_next k p x old new holding joined up c q lc lq = joined c q lq ∙ rw (up c q lc lq) (go (ℕ_discrete q p) (lt_or_le q p))
  where
    go : Dec (q ≡ p) → (q < p) ⊎ (p ≤ q) → ((eqb c 3 || ltb q p && eqb c (digit 3 k q)) || eqb c x && eqb q p) ≡ (eqb c 3 || ltb q (p + 1) && eqb c (digit 3 k q))
    go (yes e) _ = rw (e, le-ltb p p (omega arith), lt-ltb p (p + 1) (omega arith), eq-eqb p p refl, holding, and-true, or-false)
    go (no ne) (inl lt) = rw (ne_eqb q p ne, lt-ltb q p lt, lt-ltb q (p + 1) (omega arith), and-false, or-false)
    go (no ne) (inr le) = rw (ne_eqb q p ne, le-ltb q p le, le-ltb q (p + 1) (omega arith), and-false, or-false)

pub untouched_shows : (n : ℕ) (b : List (List (List ℕ))) (t : ℕ) → n ≤ 729 → n ≤ t → ShownUpTo b t → Shows n b (λ p. p)
unfolding holds
untouched_shows n b t few all laid =
    record {
      few = few;
      line = λ k lk. record { few = few; low = λ p. digit_lt 3 k p (omega arith); plane = λ c lc p lp. laid k lk c p lc (omega arith) ∙ rw (lt-ltb p t (omega arith)) };
    }
