-- What a row that is clear up to a place says of its first pair. Assumes nothing.
use Rattle.std.proofs.Common.{◌≡◌, refl, ⊎_elim, Bool, true, false, ◌&&◌, List, ℕ, ◌+◌, ◌-◌, ◌<◌, ◌≤◌, arith, ltb, length, ltb-true, lt-ltb}
use Rattle.ranges.proofs.Bools.{and_both, decide, clash}
use Rattle.ranges.proofs.Counts.{here_or_later, by_place}
use Rattle.ranges.proofs.Tests.{every_at, every_make}
use Rattle.ranges.proofs.Searches.{found, found_unique}
use Rattle.gates.specs.declared.Gate.{Gate}
use Rattle.rules.specs.Places.{may_change}
use Rattle.rules.specs.Rules.{fits}
use Rattle.rules.specs.Tidying.{gate, is_open, fitting, first_j}
use Rattle.remembering.specs.Inner.Rows.{Clear}

-- row i has a pair
abbrev pub row : List Gate → ℕ → Bool
row gs i = ltb (first_j gs i) (length gs)

module _ (gs : List Gate) (i : ℕ) where
  unfit_pair : (j : ℕ) → fits (gate gs i) (gate gs j) ≡ false → fitting gs i j ≡ false
  unfolding fitting
  unfit_pair j e = go (is_open gs i j) (fits (gate gs i) (gate gs j)) e
    where
      go : (a b : Bool) → b ≡ false → (a && b) ≡ false
      go true b q = q
      go false b q = refl

  shut_pair : (j k : ℕ) → i < k → k < j → may_change (gate gs i) (gate gs k) ≡ false → fitting gs i j ≡ false
  unfolding fitting is_open
  shut_pair j k a b e =
      ⊎_elim
      (λ (o : is_open gs i j ≡ true).
      clash (may_change (gate gs i) (gate gs k)) (every_at (λ k. may_change (gate gs i) (gate gs k)) (i + 1) (j - (i + 1)) o k (omega arith) (omega arith)) e)
      (λ (o : is_open gs i j ≡ false). rw o) (decide (is_open gs i j))

  row_none : i < length gs → ((j : ℕ) → i < j → j < length gs → fitting gs i j ≡ false) → row gs i ≡ false
  unfolding first_j
  row_none lt none =
      let w = found (fitting gs i) (i + 1) (length gs - (i + 1)) in
      ⊎_elim
      (λ (e : row gs i ≡ true).
      let l = ltb-true (first_j gs i) (length gs) e in
      clash (fitting gs i (first_j gs i)) (w.hit (omega arith)) (none (first_j gs i) (omega (arith, w.from)) l))
      (λ (e : row gs i ≡ false). e) (decide (row gs i))

  -- a row that is clear up to j: it ends there; gate j stops it; the pair i, j fits
  module _ (j : ℕ) (w : Clear gs i j) where
    unfit_before : (l : ℕ) → i < l → l < j → fitting gs i l ≡ false
    unfit_before l a b = unfit_pair l (w.quiet l a b).unfit

    pub row_ends : length gs ≤ j → row gs i ≡ false
    row_ends le = row_none (omega (arith, w.past, w.inside)) (λ l a b. unfit_before l a (omega arith))

    pub row_stops : j < length gs → fits (gate gs i) (gate gs j) ≡ false → may_change (gate gs i) (gate gs j) ≡ false → row gs i ≡ false
    row_stops lt unfit stop =
        row_none (omega (arith, w.past))
        (λ l a b.
        by_place (fitting gs i l ≡ false) j l (unfit_before l a)
        (λ c. ⊎_elim (λ (e : j ≡ l). rw (← e) (unfit_pair j unfit)) (λ (d : j < l). shut_pair l j w.past d stop) (here_or_later c)))

    pub row_fits : j < length gs → fits (gate gs i) (gate gs j) ≡ true → first_j gs i ≡ j
    unfolding first_j fitting is_open
    row_fits lt fit =
        found_unique (fitting gs i) (i + 1) (i + 1 + (length gs - (i + 1))) (first_j gs i) j (found (fitting gs i) (i + 1) (length gs - (i + 1)))
        (record {
          from = omega (arith, w.past);
          within = omega (arith, w.past);
          before = λ l a b. unfit_before l (omega arith) b;
          hit = λ l.
              and_both (is_open gs i j) (fits (gate gs i) (gate gs j))
              (every_make (λ k. may_change (gate gs i) (gate gs k)) (i + 1) (j - (i + 1)) (λ k a b. (w.quiet k (omega arith) (omega (arith, w.past))).pass)) fit;
        })

    pub row_hits : j < length gs → fits (gate gs i) (gate gs j) ≡ true → row gs i ≡ true
    row_hits lt fit = rw (row_fits lt fit) (lt-ltb j (length gs) lt)
