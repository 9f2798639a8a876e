-- The first pair of a list with gaps is the first pair of its gates: every gate passes a gap and fits none, so a row that is clear up to a place is
-- clear up to the gates before that place; and the rule applied there is the rule applied to the gates. Assumes nothing.
use Rattle.std.proofs.Common.{◌≡◌, refl, sym, ap, ap₂, ◌∙◌, ⊎_elim, true, false, List, ℕ, ◌+◌, ◌<◌, arith, length, set, length-set, get_or-set_other}
use Rattle.std.proofs.Math.Seq.{set_comm}
use Rattle.ranges.specs.Lists.{Each}
use Rattle.ranges.proofs.Bools.{decide, clash}
use Rattle.ranges.proofs.Lists.{each_at}
use Rattle.ranges.proofs.Searches.{found, found_unique}
use Rattle.ranges.proofs.Counts.{by_place}
use Rattle.gates.specs.declared.Gate.{Gate}
use Rattle.gates.specs.Gates.{inverse, IsGate}
use Rattle.gates.proofs.Gates.{inverse_gate}
use Rattle.rules.specs.declared.fitting.Rule.{Rule}
use Rattle.std.proofs.Common.{Option}
use Rattle.rules.specs.Places.{may_change}
use Rattle.rules.specs.Rules.{fits, loosened, retuned}
use Rattle.rules.specs.Tidying.{gate, first_j, first_i, without, ruled}
use Rattle.rules.proofs.Rules.{reduction, loosened_gate, retuned_gate}
use Rattle.rules.proofs.FittingPairs.{Chosen}
use Rattle.rules.proofs.FittingPairs.Chosen.{cancel, merge, reduce, nothing}
use Rattle.remembering.specs.Inner.Buffers.{gap, is_gap, GateOrGap, ungapped, rank}
use Rattle.remembering.specs.Inner.Rows.{Quiet, Clear, Stops, RowsKnown, NoPairBefore}
use Rattle.remembering.proofs.Gaps.{rank_all, rank_le, rank_mono, rank_rises, rank_lt, gate_ungapped, Standing, stands_at, rank_before, ungapped_set, ungapped_gone, gate_real, gap_passed, gap_unfit}
use Rattle.remembering.proofs.Buffers.{gate_either, gap_either}
use Rattle.remembering.proofs.RowPairs.{row, row_ends, row_stops, row_fits, row_hits}
use Rattle.tidying.specs.declared.pairs.Pair.{Pair}
use Rattle.tidying.specs.Inner.PairSearches.{PairAt, left_by}

-- ---- rows

-- i, j is the first pair
pub record First (gs : List Gate) (i j : ℕ) : Type 0 where
  pub inside : i < length gs
  pub row : i ≡ first_i gs
  pub column : j ≡ first_j gs i

module _ (gs : List Gate) (ok : Each GateOrGap gs) where
  stand : (p : ℕ) → p < length gs → GateOrGap (gate gs p)
  stand p lt = each_at GateOrGap gs _ ok p lt

  -- a gate that a gate cannot pass, or that it fits, is no gap
  shut_real : (r c : ℕ) → r < length gs → c < length gs → is_gap (gate gs r) ≡ false → may_change (gate gs r) (gate gs c) ≡ false → is_gap (gate gs c) ≡ false
  shut_real r c lr lc real e =
      ⊎_elim
      (λ (q : is_gap (gate gs c) ≡ true).
      clash (may_change (gate gs r) (gate gs c)) (ap (may_change (gate gs r)) ((stand c lc).blank q) ∙ gap_passed (gate gs r) ((stand r lr).real real)) e)
      (λ (q : is_gap (gate gs c) ≡ false). q) (decide (is_gap (gate gs c)))

  pub fits_real : (r c : ℕ) → r < length gs → c < length gs → is_gap (gate gs r) ≡ false → fits (gate gs r) (gate gs c) ≡ true → is_gap (gate gs c) ≡ false
  fits_real r c lr lc real e =
      ⊎_elim
      (λ (q : is_gap (gate gs c) ≡ true).
      clash (fits (gate gs r) (gate gs c)) e (ap (fits (gate gs r)) ((stand c lc).blank q) ∙ gap_unfit (gate gs r) ((stand r lr).real real)))
      (λ (q : is_gap (gate gs c) ≡ false). q) (decide (is_gap (gate gs c)))

  module _ (r c : ℕ) (lr : r < length gs) (real : is_gap (gate gs r) ≡ false) (w : Clear gs r c) where
    clear_ungapped : Clear (ungapped gs) (rank gs r) (rank gs c)
    clear_ungapped =
        record {
          past = rank_rises gs r c lr real w.past;
          inside = rank_le gs c;
          quiet = λ x a b. at x a b (stands_at gs x (omega (arith, rank_le gs c)));
        }
      where
        at : (x : ℕ) → rank gs r < x → x < rank gs c → Standing gs x → Quiet (gate (ungapped gs) (rank gs r)) (gate (ungapped gs) x)
        at x a b s =
            let here : rank gs s.place ≡ x = s.is in
            let after : r < s.place = by_place (r < s.place) (r + 1) s.place (λ l. absurd (omega (arith, rank_mono gs s.place r (omega arith)))) (λ l. omega arith) in
            let before : s.place < c = by_place (s.place < c) c s.place (λ l. l) (λ l. absurd (omega (arith, rank_mono gs c s.place l))) in
            let q : Quiet (gate gs r) (gate gs s.place) = w.quiet s.place after before in
            rw (← here, gate_ungapped gs r lr real, gate_ungapped gs s.place s.inside s.real) q

    none_ungapped : Stops gs r c → row (ungapped gs) (rank gs r) ≡ false
    none_ungapped stop =
        by_place (row (ungapped gs) (rank gs r) ≡ false) (length gs) c
        (λ l.
        let there : is_gap (gate gs c) ≡ false = shut_real r c lr l real (stop.shut l) in
        row_stops (ungapped gs) (rank gs r) (rank gs c) clear_ungapped (rank_lt gs c l there)
        (rw (gate_ungapped gs r lr real, gate_ungapped gs c l there) (stop.unfit l)) (rw (gate_ungapped gs r lr real, gate_ungapped gs c l there) (stop.shut l)))
        (λ l. row_ends (ungapped gs) (rank gs r) (rank gs c) clear_ungapped (omega (arith, rank_all gs c l)))

  -- no row before i has a pair
  none_before : (s : List ℕ) (i : ℕ) → RowsKnown gs s → NoPairBefore s i → (x : ℕ) → x < rank gs i → row (ungapped gs) x ≡ false
  none_before s i k low x lt =
      let w : Standing gs x = stands_at gs x (omega (arith, rank_le gs i)) in
      let here : rank gs w.place ≡ x = w.is in
      let before : w.place < i = by_place (w.place < i) i w.place (λ l. l) (λ l. absurd (omega (arith, rank_mono gs i w.place l))) in
      let told = k.rows w.place w.inside in
      rw (← here) (none_ungapped w.place _ w.inside w.real (told.clear w.real) (told.stops w.real (low w.place before)))

  -- the gates before row i have none, and it has one or is the end
  first_is : (s : List ℕ) (i : ℕ) → RowsKnown gs s → NoPairBefore s i → (rank gs i < length (ungapped gs) → row (ungapped gs) (rank gs i) ≡ true) → rank gs i ≡ first_i (ungapped gs)
  unfolding first_i
  first_is s i k low hit =
      let le = rank_le gs i in
      found_unique (row (ungapped gs)) 0 (0 + length (ungapped gs)) (rank gs i) (first_i (ungapped gs))
      (record { from = omega arith; within = omega arith; before = λ x a b. none_before s i k low x b; hit = λ q. hit (omega arith) })
      (found (row (ungapped gs)) 0 (length (ungapped gs)))

  pub first_at : (s : List ℕ) (pair : Pair) → RowsKnown gs s → NoPairBefore s pair.i → PairAt gs pair → First (ungapped gs) (rank gs pair.i) (rank gs pair.j)
  first_at s pair k low w =
      let i = pair.i in
      let j = pair.j in
      let there : is_gap (gate gs j) ≡ false = fits_real i j w.within w.inside w.gate_i w.fit in
      let fit : fits (gate (ungapped gs) (rank gs i)) (gate (ungapped gs) (rank gs j)) ≡ true = rw (gate_ungapped gs i w.within w.gate_i, gate_ungapped gs j w.inside there) w.fit in
      let clear = clear_ungapped i j w.within w.gate_i w.clear in
      let end = rank_lt gs j w.inside there in
      record {
        inside = rank_lt gs i w.within w.gate_i;
        row = first_is s i k low (λ q. row_hits (ungapped gs) (rank gs i) (rank gs j) clear end fit);
        column = sym (row_fits (ungapped gs) (rank gs i) (rank gs j) clear end fit);
      }

  -- no row has a pair
  pub first_none : (s : List ℕ) (m : ℕ) → RowsKnown gs s → length gs ≡ m → NoPairBefore s m → first_i (ungapped gs) ≡ length (ungapped gs)
  first_none s m k e low =
      let all = rank_all gs m (omega arith) in
      sym (first_is s m k low (λ q. absurd (omega arith))) ∙ all

-- ---- the rule that fits the pair

module _ (gs : List Gate) (ok : Each GateOrGap gs) (pair : Pair) (w : PairAt gs pair) where
  real_j : is_gap (gate gs pair.j) ≡ false
  real_j = fits_real gs ok pair.i pair.j w.within w.inside w.gate_i w.fit

  first_gate : IsGate 6 (gate gs pair.i)
  first_gate = (stand gs ok pair.i w.within).real w.gate_i

  second_gate : IsGate 6 (gate gs pair.j)
  second_gate = (stand gs ok pair.j w.inside).real real_j

  -- the two gates, in the list without gaps
  left_is : gate (ungapped gs) (rank gs pair.i) ≡ gate gs pair.i
  left_is = gate_ungapped gs pair.i w.within w.gate_i

  right_is : gate (ungapped gs) (rank gs pair.j) ≡ gate gs pair.j
  right_is = gate_ungapped gs pair.j w.inside real_j

  -- what the rule leaves there
  pub left_stands : {r : Option Rule} → Chosen (gate gs pair.i) (gate gs pair.j) r → GateOrGap (left_by r (gate gs pair.i) (gate gs pair.j)).first × GateOrGap (left_by r (gate gs pair.i) (gate gs pair.j)).second
  left_stands (cancel c) = (gap_either, gap_either)
  left_stands (merge c m) = (gap_either, gate_either _ (inverse_gate 6 _ second_gate))
  left_stands (reduce c m e) = let r = reduction _ _ e in (gate_either _ (loosened_gate _ _ r 6 first_gate), gate_either _ (retuned_gate _ _ r 6 second_gate))
  left_stands (nothing n) = clash (fits (gate gs pair.i) (gate gs pair.j)) w.fit n

  module _ (h : Gate) where
    there : pair.i < length (set gs pair.j h)
    there = rw (length-set gs pair.j h) w.within

    still : is_gap (gate (set gs pair.j h) pair.i) ≡ false
    still = rw (get_or-set_other gs pair.j pair.i h (record { operator = 0; target = 0; controls = 0 }) (omega (arith, w.clear.past))) w.gate_i

    ranked : rank (set gs pair.j h) pair.i ≡ rank gs pair.i
    ranked = rank_before gs pair.j pair.i h (omega (arith, w.clear.past))

  pub left_ruled : {r : Option Rule} → Chosen (gate gs pair.i) (gate gs pair.j) r
      → ungapped (set (set gs pair.j (left_by r (gate gs pair.i) (gate gs pair.j)).second) pair.i (left_by r (gate gs pair.i) (gate gs pair.j)).first) ≡ ruled (ungapped gs) (rank gs pair.i) (rank gs pair.j)
  unfolding is_gap ruled
  left_ruled (cancel c) =
      ungapped_gone (set gs pair.j gap) pair.i gap (there gap) (still gap) refl
      ∙ ap₂ without (ungapped_gone gs pair.j gap w.inside real_j refl) (ranked gap)
      ∙ rw (left_is, right_is, c)
  left_ruled (merge c m) =
      let h : Gate = inverse (gate gs pair.j) in
      ungapped_gone (set gs pair.j h) pair.i gap (there h) (still h) refl
      ∙ ap₂ without (ungapped_set gs pair.j h w.inside real_j (gate_real _ (inverse_gate 6 _ second_gate))) (ranked h)
      ∙ rw (left_is, right_is, c, m)
  left_ruled (reduce c m e) =
      let r = reduction _ _ e in
      let g : Gate = loosened (gate gs pair.i) (gate gs pair.j) in
      let h : Gate = retuned (gate gs pair.i) (gate gs pair.j) in
      ungapped_set (set gs pair.j h) pair.i g (there h) (still h) (gate_real _ (loosened_gate _ _ r 6 first_gate))
      ∙ ap₂ (λ (l : List Gate) (x : ℕ). set l x g) (ungapped_set gs pair.j h w.inside real_j (gate_real _ (retuned_gate _ _ r 6 second_gate))) (ranked h)
      ∙ set_comm (ungapped gs) (rank gs pair.j) (rank gs pair.i) h g (omega (arith, rank_rises gs pair.i pair.j w.within w.gate_i w.clear.past))
      ∙ rw (left_is, right_is, c, m)
  left_ruled (nothing n) = clash (fits (gate gs pair.i) (gate gs pair.j)) w.fit n
