-- How many gates a cascade has at most, in the radix r = q + 1: n r^n - (r^n - 1) / (r - 1).
-- Row i's entry is i or more, so row i has at most `most r n i` gates: one for each line, but none from the line up from which every digit of i is the largest.
-- `most` is summed by taking the lowest digit off. Assumes nothing.
use mathlib.Core.Path.{◌≡◌, sym, ap, ◌∙◌}
use mathlib.Core.Bool.{cond}
use mathlib.Core.List.{List}
use Prim.Native.Nat.{ℕ, zero, suc, ◌+◌, ◌-◌, ◌*◌, ◌/◌, ◌%◌, ◌^◌, ◌≤◌, ◌<◌}
use native.Mathlib.Nat.{pow-zero, pow-succ', le_of_mul-le-mul_left, div-eq_of_eq-mul_right, le_refl, zero-add}
use native.Mathlib.Decide.{ℕ_discrete}
use native.Mathlib.Omega.{arith}
use lib.Dec.{eqb}
use lib.ListN.{length}
use borrow.Author.Tests.{eq-eqb, ne_eqb}
use Rattle.ranges.specs.Ranges.{sum}
use Rattle.ranges.proofs.Bools.{one_at_most}
use Rattle.ranges.proofs.Sums.{sum_snoc}
use Rattle.ranges.proofs.Blocks.{sum_add, sum_blocks, sum_but_last}
use Rattle.digits.proofs.Digits.{div_lt_pow}
use Rattle.digits.proofs.Sizes.{patterns_some}
use Rattle.tables.specs.Permutations.{Permutation}
use Rattle.procedure.specs.Procedure.{State, rows, settled, cascade_for}
use Rattle.procedure.proofs.Families.{Exchanges}
use Rattle.procedure.proofs.Mixes.{div_mono}
use Rattle.procedure.proofs.Differences.{differing, differing_none, differing_first}
use Rattle.procedure.proofs.Steps.{begun}
use Rattle.procedure.proofs.Settles.{Done, done_rows, entry_ge, row_count}

-- row i is the last of n lines exactly if suc i is r ^ n
unfoldable most : ℕ → ℕ → ℕ → ℕ
most r zero i = 0
most r (suc n) i = most r n (i / r) + cond (eqb (suc i) (r ^ suc n)) 0 1

differing_most : (r n a i : ℕ) → 0 < r → i ≤ a → a < r ^ n → differing r n a i ≤ most r n i
unfolding most
differing_most r zero a i pos le lt = rw (differing_none r a i) (omega arith)
differing_most r (suc n) a i pos le lt =
    rw (differing_first r n a i) (go (differing_most r n (a / r) (i / r) pos (div_mono r a i pos le) (div_lt_pow r n a pos lt)) (ℕ_discrete (suc i) (r ^ suc n)))
  where
    go : differing r n (a / r) (i / r) ≤ most r n (i / r) → Dec (suc i ≡ r ^ suc n)
        → cond (eqb (a % r) (i % r)) 0 1 + differing r n (a / r) (i / r) ≤ most r n (i / r) + cond (eqb (suc i) (r ^ suc n)) 0 1
    go ih (yes e) =
        let same : a ≡ i = omega arith in
        rw (eq-eqb (a % r) (i % r) (ap (λ (x : ℕ). x % r) same), eq-eqb (suc i) (r ^ suc n) e) (omega arith)
    go ih (no ne) = rw (ne_eqb (suc i) (r ^ suc n) ne) (omega (arith, one_at_most (eqb (a % r) (i % r))))

module _ (q : ℕ) where
  -- one proof of it for all sections
  pos : 0 < suc q
  pos = omega arith

  sum_last : (m : ℕ) → 0 < m → sum (λ i. cond (eqb (suc i) m) 0 1) 0 m + 1 ≡ m
  sum_last zero lt = absurd (omega arith)
  sum_last (suc m) lt = rw (sum_but_last m) (omega arith)

  sum_next : (n : ℕ) → sum (most (suc q) (suc n)) 0 (suc q ^ suc n) + 1 ≡ suc q * sum (most (suc q) n) 0 (suc q ^ n) + suc q ^ suc n
  unfolding most
  sum_next n =
      let split : sum (most (suc q) (suc n)) 0 (suc q ^ suc n)
      ≡ sum (λ i. most (suc q) n (i / suc q)) 0 (suc q ^ suc n) + sum (λ i. cond (eqb (suc i) (suc q ^ suc n)) 0 1) 0 (suc q ^ suc n) =
      sum_add (λ i. most (suc q) n (i / suc q)) (λ i. cond (eqb (suc i) (suc q ^ suc n)) 0 1) 0 (suc q ^ suc n) in
      let blocks : sum (λ i. most (suc q) n (i / suc q)) 0 (suc q ^ suc n) ≡ suc q * sum (most (suc q) n) 0 (suc q ^ n) =
      ap (sum (λ i. most (suc q) n (i / suc q)) 0) (pow-succ' (suc q) n) ∙ sum_blocks (most (suc q) n) (suc q) (suc q ^ n) pos in
      omega (arith, split, blocks, sum_last (suc q ^ suc n) (patterns_some (suc q) (suc n) pos))

  -- the numbers of one step: S of P rows, and S' of the r P rows with one line more
  next_sum : (n P S S' : ℕ) → S' + 1 ≡ suc q * S + suc q * P → q * S + P ≡ q * (n * P) + 1 → q * S' + suc q * P ≡ q * (suc n * (suc q * P)) + 1
  next_sum n P S S' e ih =
      let e' : q * (S' + 1) ≡ q * (suc q * S + suc q * P) = ap (λ (x : ℕ). q * x) e in
      let ih' : suc q * (q * S + P) ≡ suc q * (q * (n * P) + 1) = ap (λ (x : ℕ). suc q * x) ih in
      omega arith

  sum_most : (n : ℕ) → q * sum (most (suc q) n) 0 (suc q ^ n) + suc q ^ n ≡ q * (n * suc q ^ n) + 1
  unfolding most sum
  sum_most zero = rw pow-zero (omega arith)
  sum_most (suc n) =
      let e : sum (most (suc q) (suc n)) 0 (suc q ^ suc n) + 1 ≡ suc q * sum (most (suc q) n) 0 (suc q ^ n) + suc q * suc q ^ n =
      sum_next n ∙ ap (λ (x : ℕ). suc q * sum (most (suc q) n) 0 (suc q ^ n) + x) (pow-succ' (suc q) n) in
      ap (λ (x : ℕ). q * sum (most (suc q) (suc n)) 0 (suc q ^ suc n) + x) (pow-succ' (suc q) n)
      ∙ next_sum n (suc q ^ n) (sum (most (suc q) n) 0 (suc q ^ n)) _ e (sum_most n)
      ∙ ap (λ (x : ℕ). q * (suc n * x) + 1) (sym (pow-succ' (suc q) n))

  -- the sum is the bound
  sum_is : (n : ℕ) → 0 < q → sum (most (suc q) n) 0 (suc q ^ n) ≡ n * suc q ^ n - (suc q ^ n - 1) / q
  sum_is n big = value (sum (most (suc q) n) 0 (suc q ^ n)) (suc q ^ n) (patterns_some (suc q) n pos) (sum_most n)
    where
      value : (S P : ℕ) → 0 < P → q * S + P ≡ q * (n * P) + 1 → S ≡ n * P - (P - 1) / q
      value S P some e =
          let le : S ≤ n * P = le_of_mul-le-mul_left {m = S} {n = n * P} {k = q} (omega arith) big in
          let w : q * (S + (n * P - S)) ≡ q * (n * P) = ap (λ (x : ℕ). q * x) (omega arith) in
          let m : q * (n * P - S) ≡ P - 1 = omega arith in
          let d : (P - 1) / q ≡ n * P - S = div-eq_of_eq-mul_right {n = q} {m = P - 1} {k = n * P - S} big (sym m) in
          omega arith

  module _ {G : Type 0} (apply : G → ℕ → ℕ) (make : ℕ → ℕ → ℕ → ℕ → G) (n : ℕ) (fam : Exchanges (suc q) apply make n) (t : List ℕ)
      (perm : Permutation (suc q ^ n) t) where
    rows_most : (i : ℕ) → i ≤ suc q ^ n → length (rows (suc q) apply make n i (begun t)).found ≤ sum (most (suc q) n) 0 i
    unfolding rows
    rows_most zero le = omega arith
    rows_most (suc i) le =
        let s : State G = rows (suc q) apply make n i (begun t) in
        let d : Done (suc q) pos apply make n fam t i s = done_rows (suc q) pos apply make n fam t perm i (omega arith) in
        let c = row_count (suc q) pos apply make n fam t i s le d in
        let m = differing_most (suc q) n _ i pos (entry_ge (suc q) pos apply make n fam t i s le d) (d.kept.perm.within i le) in
        rw (sum_snoc (most (suc q) n) 0 i, zero-add i) (omega (arith, rows_most i (omega arith)))

    pub enough : 0 < q → length (cascade_for (suc q) apply make n t) ≤ n * suc q ^ n - (suc q ^ n - 1) / q
    unfolding cascade_for settled
    enough big = omega (arith, rows_most (suc q ^ n) (le_refl _), sum_is n big)
