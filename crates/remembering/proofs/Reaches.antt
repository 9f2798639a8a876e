-- How far the rows of each stretch reach, measured again or raised where rows change; and the rows before which none has a pair. Assumes nothing.
use Rattle.std.proofs.Common.{◌≡◌, ℕ, zero, suc, ◌+◌, ◌-◌, ◌*◌, ◌/◌, ◌%◌, ◌<◌, ◌≤◌, max, Bool, true, false, cond, nat_eq, List, [], ◌∷◌, All, count_by, length, get_or, set, take, drop, refl, sym, ap, subst, ◌∙◌, eq-eqb, rules, arith, length-drop, length-take-le, get_or-take, get_or-drop, get_or-set_same, get_or-set_other}
use Rattle.std.specs.Simd.{first_chunks}
use Rattle.std.proofs.lemmas.List.Elements.{All-cons}
use Rattle.std.proofs.lemmas.List.Sums.{sum_by-cons}
use native.Mathlib.Decide.{ℕ_discrete}
use Rattle.ranges.proofs.Bools.{clash}
use Rattle.ranges.proofs.Counts.{by_place}
use Rattle.ranges.proofs.Changes.{at_set}
use Rattle.remembering.specs.Inner.Rows.{settled_mark, NoPairBefore, ReachBounds, ReachBoundsBut}

-- ---- sixteen of a list

-- what holds of each of them, and one alone
pub sixteen_at : (P : ℕ → Type 0) (s : List ℕ) (x e r : ℕ) → e ≡ x + 16 → e ≤ length s → All P (take (e - x) (drop x s)) → x ≤ r → r < e → P (get_or s r 0)
sixteen_at P s x e r is inside all a b =
    let at : x + (r - x) ≡ r = omega arith in
    let long : r - x < length (take (e - x) (drop x s)) = simp (length-take-le (e - x) (drop x s) (rw (length-drop x s) (omega arith))) (omega arith) in
    let here : get_or (take (e - x) (drop x s)) (r - x) 0 ≡ get_or s r 0 =
    get_or-take (e - x) (drop x s) (r - x) 0 (omega arith) ∙ get_or-drop x s (r - x) 0 ∙ ap (λ (k : ℕ). get_or s k 0) at in
    subst P here (all (r - x) 0 long)

-- the same where they are the sixteen of a place in a list that is cut into n sixteens
pub sixteens_at : (P : ℕ → Type 0) (n : ℕ) (s : List ℕ) (q k : ℕ) → 16 * n ≤ length s → q < n → All P (get_or (first_chunks 16 n s) q []) → k < 16 → P (get_or s (16 * q + k) 0)
sixteens_at P zero s q k room lt all small = absurd (omega arith)
sixteens_at P (suc n) s zero k room lt all small =
    let at : k ≡ 16 * 0 + k = omega arith in
    let here : get_or (take 16 s) k 0 ≡ get_or s (16 * 0 + k) 0 = get_or-take 16 s k 0 small ∙ ap (λ (i : ℕ). get_or s i 0) at in
    subst P here (all k 0 (rw (length-take-le 16 s (omega arith)) small))
sixteens_at P (suc n) s (suc q) k room lt all small =
    let at : 16 + (16 * q + k) ≡ 16 * suc q + k = omega arith in
    let here : get_or (drop 16 s) (16 * q + k) 0 ≡ get_or s (16 * suc q + k) 0 = get_or-drop 16 s (16 * q + k) 0 ∙ ap (λ (i : ℕ). get_or s i 0) at in
    subst P here (sixteens_at P n (drop 16 s) q k (omega (arith, length-drop 16 s)) (omega arith) all small)

-- where none is counted, there is none
uncounted : (b : Bool) (n : ℕ) → cond b 1 0 + n ≡ 0 → (b ≡ false) × (n ≡ 0)
uncounted true n e = absurd (omega arith)
uncounted false n e = (refl, omega arith)

none_there : (p : ℕ → Bool) (xs : List ℕ) → count_by p xs ≡ 0 → All (λ n. p n ≡ false) xs
none_there p [] e = search rules
none_there p (x ∷ xs) e =
    let w : (p x ≡ false) × (count_by p xs ≡ 0) = uncounted (p x) (count_by p xs) (sym (sum_by-cons (λ n. cond (p n) 1 0) x xs) ∙ e) in
    All-cons (λ n. p n ≡ false) x xs w.0 (none_there p xs w.1)

pub none_counted : (s : List ℕ) (x e p r : ℕ) {n : ℕ} → e ≡ x + 16 → e ≤ length s → n ≡ count_by (λ k. nat_eq (k % settled_mark) p) (take (e - x) (drop x s)) → n ≡ 0 → x ≤ r → r < e → get_or s r 0 % settled_mark ≡ p → ⊥
none_counted s x e p r is inside count none a b q =
    let no = sixteen_at (λ k. nat_eq (k % settled_mark) p ≡ false) s x e r is inside (none_there (λ k. nat_eq (k % settled_mark) p) (take (e - x) (drop x s)) (sym count ∙ none)) a b in
    clash (nat_eq (get_or s r 0 % settled_mark) p) (eq-eqb (get_or s r 0 % settled_mark) p q) no

-- ---- how far the rows of a stretch reach

-- sixteen stretches that do not reach gate p
pub reach_many : (far reach : List ℕ) (m p x e most r : ℕ) → ReachBounds far reach m → e ≡ x + 16 → e ≤ length reach → All (λ n. n % settled_mark ≤ most) (take (e - x) (drop x reach)) → most < p
    → 16 * x ≤ r → r < 16 * x + 256 → r < m → get_or far r 0 % settled_mark < p
reach_many far reach m p x e most r w is long all lt a b l =
    let here : get_or reach (r / 16) 0 % settled_mark ≤ most = sixteen_at (λ n. n % settled_mark ≤ most) reach x e (r / 16) is long all (omega arith) (omega arith) in
    omega (arith, w.bound r l)

-- stretch s is measured again, the rows of the others being as they were
pub reach_again : (far t reach : List ℕ) (m s x e most : ℕ) → ReachBounds far reach m → x ≡ 16 * s → e ≡ x + 16 → e ≤ length t → s < length reach → ((r : ℕ) → r < 16 * s → get_or t r 0 ≡ get_or far r 0)
    → ((r : ℕ) → 16 * s + 16 ≤ r → get_or t r 0 ≡ get_or far r 0) → All (λ n. n % settled_mark ≤ most) (take (e - x) (drop x t)) → most < settled_mark → ReachBounds t (set reach s most) m
reach_again far t reach m s x e most w start end long inside below above all small =
    record { bound = bound }
  where
    near : (r : ℕ) → r / 16 ≡ s → get_or t r 0 % settled_mark ≤ most
    near r q = sixteen_at (λ n. n % settled_mark ≤ most) t x e r end long all (omega arith) (omega arith)

    away : (r : ℕ) → r < m → (r / 16 ≡ s → ⊥) → get_or t r 0 % settled_mark ≤ get_or reach (r / 16) 0 % settled_mark
    away r l ne =
        let same : get_or t r 0 ≡ get_or far r 0 = by_place (get_or t r 0 ≡ get_or far r 0) (16 * s) r (below r) (λ c. above r (omega arith)) in
        rw same (w.bound r l)

    bound : (r : ℕ) → r < m → get_or t r 0 % settled_mark ≤ get_or (set reach s most) (r / 16) 0 % settled_mark
    bound r l = go (ℕ_discrete (r / 16) s)
      where
        go : Dec (r / 16 ≡ s) → get_or t r 0 % settled_mark ≤ get_or (set reach s most) (r / 16) 0 % settled_mark
        go (yes e) = rw (e, get_or-set_same reach s most 0 inside) (omega (arith, near r e))
        go (no ne) = rw (get_or-set_other reach s (r / 16) most 0 ne) (away r l ne)

-- where row r is clear up to n at most and the other rows are within their bounds, raising its stretch to n bounds them all
raised : (far reach : List ℕ) (m r n : ℕ) → r / 16 < length reach → n < settled_mark → get_or far r 0 % settled_mark ≤ n
    → ((q : ℕ) → q < m → (q ≡ r → ⊥) → get_or far q 0 % settled_mark ≤ get_or reach (q / 16) 0 % settled_mark) → ReachBounds far (set reach (r / 16) (max (get_or reach (r / 16) 0 % settled_mark) n)) m
raised far reach m r n inside low near others = record { bound = λ q l. go q l (ℕ_discrete q r) (ℕ_discrete (q / 16) (r / 16)) }
  where
    here : get_or (set reach (r / 16) (max (get_or reach (r / 16) 0 % settled_mark) n)) (r / 16) 0 ≡ max (get_or reach (r / 16) 0 % settled_mark) n
    here = get_or-set_same reach (r / 16) (max (get_or reach (r / 16) 0 % settled_mark) n) 0 inside

    small : max (get_or reach (r / 16) 0 % settled_mark) n % settled_mark ≡ max (get_or reach (r / 16) 0 % settled_mark) n
    small = omega arith

    go : (q : ℕ) → q < m → Dec (q ≡ r) → Dec (q / 16 ≡ r / 16) → get_or far q 0 % settled_mark ≤ get_or (set reach (r / 16) (max (get_or reach (r / 16) 0 % settled_mark) n)) (q / 16) 0 % settled_mark
    go q l (yes e) d = rw (e, here, small) (omega (arith, near))
    go q l (no ne) (yes e) =
        let before : get_or far q 0 % settled_mark ≤ get_or reach (r / 16) 0 % settled_mark = rw e at (others q l ne) in
        rw (e, here, small) (omega arith)
    go q l (no ne) (no nd) = rw (get_or-set_other reach (r / 16) (q / 16) (max (get_or reach (r / 16) 0 % settled_mark) n) 0 nd) (others q l ne)

-- row r alone has changed: its stretch reaches that far now
pub reach_raised : (far reach : List ℕ) (m r n : ℕ) → r / 16 < length reach → ReachBoundsBut far reach m r n → ReachBounds far (set reach (r / 16) (max (get_or reach (r / 16) 0 % settled_mark) n)) m
reach_raised far reach m r n inside w = raised far reach m r n inside w.small w.near w.others

-- row r alone gets the number k, and its stretch reaches up to n now: where the first m rows were within their bounds, they are
pub reach_set : (far reach : List ℕ) (m r k n : ℕ) → ReachBounds far reach m → r < length far → r / 16 < length reach → n < settled_mark → k % settled_mark ≤ n
    → ReachBounds (set far r k) (set reach (r / 16) (max (get_or reach (r / 16) 0 % settled_mark) n)) m
reach_set far reach m r k n w room inside small near =
    raised (set far r k) reach m r n inside small (rw (get_or-set_same far r k 0 room) near) (λ q l ne. rw (get_or-set_other far r q k 0 ne) (w.bound q l))

-- row r alone is changed, to the number k
pub reach_but : (far reach : List ℕ) (m r k n : ℕ) → ReachBounds far reach m → r < m → r < length far → n < settled_mark → k % settled_mark ≤ n → ReachBoundsBut (set far r k) reach m r n
reach_but far reach m r k n w lt room small near =
    record {
      inside = lt;
      small = small;
      near = rw (get_or-set_same far r k 0 room) near;
      others = λ q l ne. rw (get_or-set_other far r q k 0 ne) (w.bound q l);
    }

-- at the start
pub reach_start : (m n : ℕ) (far reach : List ℕ) → m ≤ 16 * n → n ≤ 500 → ((r : ℕ) → r < m → get_or far r 0 ≡ r + 1) → ((s : ℕ) → s < n → get_or reach s 0 ≡ 16 * s + 16) → ReachBounds far reach m
reach_start m n far reach le most rows bounds = record { bound = λ r l. rw (rows r l, bounds (r / 16) (omega arith)) (omega arith) }

-- the same of any number of rows, where those behind the gates' rows have the number 0
pub reach_begun : (m n k : ℕ) (far reach : List ℕ) → m ≤ 16 * n → n ≤ 500 → ((r : ℕ) → r < m → get_or far r 0 ≡ r + 1) → ((r : ℕ) → m ≤ r → get_or far r 0 ≡ 0)
    → ((s : ℕ) → s < n → get_or reach s 0 ≡ 16 * s + 16) → ReachBounds far reach k
reach_begun m n k far reach le most rows rest bounds =
    record {
      bound = λ r l. by_place (get_or far r 0 % settled_mark ≤ get_or reach (r / 16) 0 % settled_mark) m r
          ((reach_start m n far reach le most rows bounds).bound r) (λ a. rw (rest r a) (omega arith));
    }

-- ---- no row before x has a pair

-- row y has the number n now
pub no_pair_set : (s : List ℕ) (y n z : ℕ) → y < length s → (y < z → settled_mark ≤ n) → ((r : ℕ) → (r ≡ y → ⊥) → r < z → settled_mark ≤ get_or s r 0) → NoPairBefore (set s y n) z
no_pair_set s y n z lt here others r = at_set (λ (r v : ℕ). r < z → settled_mark ≤ v) s y n 0 lt here r (others r)

-- the next q rows have none either
pub no_pair_more : (s : List ℕ) (x q : ℕ) → NoPairBefore s x → ((k : ℕ) → k < q → settled_mark ≤ get_or s (x + k) 0) → NoPairBefore s (x + q)
no_pair_more s x q low more r l =
    by_place (settled_mark ≤ get_or s r 0) x r (low r) (λ b. let e : x + (r - x) ≡ r = omega arith in rw e at (more (r - x) (omega arith)))
