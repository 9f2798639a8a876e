-- What a number says of its row stays true: where the row is found clear further on, where it is found to have no pair, and where a gate is replaced.
-- Assumes nothing.
use Rattle.std.proofs.Common.{◌≡◌, sym, subst, ⊎_elim, Bool, true, false, cond, List, ℕ, ◌+◌, ◌%◌, ◌<◌, ◌≤◌, arith, length, get_or, set, length-set, get_or-set_same, get_or-set_other}
use native.Mathlib.Decide.{ℕ_discrete}
use Rattle.ranges.specs.Lists.{Each}
use Rattle.ranges.proofs.Bools.{decide, clash}
use Rattle.ranges.proofs.Lists.{each_at}
use Rattle.gates.specs.declared.Gate.{Gate}
use Rattle.rules.specs.Places.{may_change}
use Rattle.rules.specs.Rules.{fits}
use Rattle.rules.specs.Tidying.{gate}
use Rattle.remembering.specs.Inner.Buffers.{is_gap}
use Rattle.remembering.specs.Inner.Rows.{Quiet, Clear, Stops, settled_mark, RowKnown, RowsKnown}

-- ---- one row

pub clear_start : (gs : List Gate) (r : ℕ) → r < length gs → Clear gs r (r + 1)
clear_start gs r lt = record { past = omega arith; inside = omega arith; quiet = λ l a b. absurd (omega arith) }

-- ---- gate p becomes g

-- a row of another gate: the pair with gate p alone is to be looked at, where the row was clear past p
clear_set : (gs : List Gate) (p : ℕ) (g : Gate) (r c : ℕ) → p < length gs → (r ≡ p → ⊥) → Clear gs r c → (r < p → p < c → Quiet (gate gs r) g)
    → Clear (set gs p g) r c
clear_set gs p g r c lt ne w again =
    record {
      past = w.past;
      inside = rw (length-set gs p g) w.inside;
      quiet = λ l a b. here l a b (ℕ_discrete l p);
    }
  where
    here : (l : ℕ) → r < l → l < c → Dec (l ≡ p) → Quiet (gate (set gs p g) r) (gate (set gs p g) l)
    here l a b (yes e) = rw (e, get_or-set_same gs p g _ lt, get_or-set_other gs p r g _ ne) (again (omega arith) (omega arith))
    here l a b (no n) = rw (get_or-set_other gs p l g _ n, get_or-set_other gs p r g _ ne) (w.quiet l a b)

-- it stops at another gate than p
stops_set : (gs : List Gate) (p : ℕ) (g : Gate) (r c : ℕ) → (r ≡ p → ⊥) → (c ≡ p → ⊥) → Stops gs r c → Stops (set gs p g) r c
stops_set gs p g r c ne nc w =
    record {
      unfit = λ l. rw (get_or-set_other gs p c g _ nc, get_or-set_other gs p r g _ ne) (w.unfit (rw (length-set gs p g) at l));
      shut = λ l. rw (get_or-set_other gs p c g _ nc, get_or-set_other gs p r g _ ne) (w.shut (rw (length-set gs p g) at l));
    }

module _ (gs : List Gate) (p : ℕ) (g : Gate) (r n : ℕ) (lt : p < length gs) (ne : r ≡ p → ⊥) (w : RowKnown gs r n) where
  was : (x : Bool) → is_gap (gate (set gs p g) r) ≡ x → is_gap (gate gs r) ≡ x
  was x e = rw (get_or-set_other gs p r g _ ne) at e

  -- its number stays, where it does not reach gate p or is quiet with the new one
  pub row_stays : (is_gap (gate gs r) ≡ false → n % settled_mark ≡ p → ⊥) → (is_gap (gate gs r) ≡ false → r < p → p < n % settled_mark → Quiet (gate gs r) g) → RowKnown (set gs p g) r n
  row_stays off again =
      record {
        clear = λ e. clear_set gs p g r (n % settled_mark) lt ne (w.clear (was false e)) (again (was false e));
        stops = λ e l. stops_set gs p g r (n % settled_mark) ne (off (was false e)) (w.stops (was false e) l);
        gone = λ e. w.gone (was true e);
      }

  module _ (before : r < p) (small : p < settled_mark) where
    -- it does not reach p; it does, and the pair is quiet
    pub again_near : n % settled_mark < p → RowKnown (set gs p g) r n
    again_near l = row_stays (λ e q. omega arith) (λ e a b. absurd (omega arith))

    pub again_quiet : p < n % settled_mark → fits (gate gs r) g ≡ false → may_change (gate gs r) g ≡ true → RowKnown (set gs p g) r n
    again_quiet l unfit may = row_stays (λ e q. omega arith) (λ e a b. record { unfit = unfit; pass = may })

-- the row behind gate p keeps its number
pub row_behind : (gs : List Gate) (p : ℕ) (g : Gate) (r n : ℕ) → p < length gs → p < r → RowKnown gs r n → RowKnown (set gs p g) r n
row_behind gs p g r n lt l w =
    row_stays gs p g r n lt (λ e. omega arith) w (λ e q. omega (arith, (w.clear e).past)) (λ e a b. absurd (omega arith))

-- the row of gate p starts anew
pub row_own : (gs : List Gate) (p : ℕ) (g : Gate) → p < length gs → p < 8000 → RowKnown (set gs p g) p (cond (is_gap g) settled_mark (p + 1))
row_own gs p g lt small =
    record {
      clear = λ e. rw (at e, first) (clear_start (set gs p g) p (rw (length-set gs p g) lt));
      stops = λ e l. absurd (few (at e) l);
      gone = λ e. rw (here true e);
    }
  where
    here : (x : Bool) → is_gap (gate (set gs p g) p) ≡ x → is_gap g ≡ x
    here x e = rw (get_or-set_same gs p g (record { operator = 0; target = 0; controls = 0 }) lt) at e

    at : is_gap (gate (set gs p g) p) ≡ false → is_gap g ≡ false
    at = here false

    first : (p + 1) % settled_mark ≡ p + 1
    first = omega arith

    few : is_gap g ≡ false → settled_mark ≤ cond (is_gap g) settled_mark (p + 1) → ⊥
    few e l = let m : settled_mark ≤ p + 1 = rw e at l in omega arith

-- ---- all rows

pub known_start : (gs : List Gate) (m : ℕ) (s : List ℕ) → length gs ≡ m → m ≤ 8000 → m + 16 ≤ length s → ((r : ℕ) → r < m → get_or s r 0 ≡ r + 1) → Each (λ g. is_gap g ≡ false) gs
    → RowsKnown gs s
known_start gs m s e most le starts real =
    record {
      room = omega arith;
      rows = λ r l. subst (RowKnown gs r) (sym (starts r (omega arith))) (row r l);
    }
  where
    row : (r : ℕ) → r < length gs → RowKnown gs r (r + 1)
    row r l =
        let same : (r + 1) % settled_mark ≡ r + 1 = omega arith in
        record {
          clear = λ q. rw same (clear_start gs r l);
          stops = λ q a. absurd (omega arith);
          gone = λ q. clash (is_gap (gate gs r)) q (each_at (λ g. is_gap g ≡ false) gs _ real r l);
        }

-- a row whose number is below settled_mark is that of a gate, and clear up to it
pub row_real : (gs : List Gate) (r n : ℕ) → RowKnown gs r n → n < settled_mark → is_gap (gate gs r) ≡ false
row_real gs r n w lt =
    ⊎_elim (λ (e : is_gap (gate gs r) ≡ true). absurd (omega (arith, w.gone e))) (λ (e : is_gap (gate gs r) ≡ false). e) (decide (is_gap (gate gs r)))
