-- The procedure at work, once over the radix and the family of gates: each row is settled digit by digit and stays so (`settles`), the gates found take the
-- present entries back to the given ones, and so the cascade computes the table (`computes`); each gate was asked for (`gates_made`); and no pattern is missed
-- (`reaches`), since the identity misses none and a gate changes nothing in that. It rests on `mixed`: row i never meets an entry below i. Assumes nothing.
use mathlib.Core.Path.{◌≡◌, refl, sym, ap, ◌∙◌}
use mathlib.Core.Logic.{⊎_elim}
use mathlib.Core.List.{List, map}
use Prim.Native.Nat.{ℕ, zero, suc, ◌+◌, ◌^◌, ◌≤◌, ◌<◌}
use native.Mathlib.Nat.{eq-or-lt_of_le, le_of_suc-le-suc, le_refl, add-zero}
use native.Mathlib.Decide.{ℕ_discrete}
use native.Mathlib.Omega.{arith}
use lib.ListN.{length, get_or, length-map}
use Rattle.ranges.specs.Lists.{Each, through}
use Rattle.ranges.proofs.Lists.{map_at, through_nil, through_cons}
use Rattle.ranges.proofs.Counts.{lt_or_le}
use Rattle.digits.specs.Digits.{digit, put}
use Rattle.digits.proofs.Digits.{digit_lt, put_same}
use Rattle.tables.specs.Permutations.{Permutation}
use Rattle.procedure.specs.Procedure.{State, adding, digit_step, row_steps, rows, settled, cascade_for}
use Rattle.procedure.proofs.Families.{DigitChange, Exchanges, Made}
use Rattle.procedure.proofs.Mixes.{mixed, mixed_none, mixed_digit, mixed_put, mixed_all, mixed_ge}
use Rattle.procedure.proofs.Differences.{differing, differing_none, differing_same, differing_other}
use Rattle.procedure.proofs.Steps.{begun, step_same, step_other}

-- every pattern is an entry
abbrev pub Onto : ℕ → ℕ → List ℕ → Type 0
Onto r n t = (q : ℕ) → q < r ^ n → (p : ℕ) × (p < r ^ n) × (get_or t p 0 ≡ q)

module _ (r : ℕ) (pos : 0 < r) {G : Type 0} (apply : G → ℕ → ℕ) (make : ℕ → ℕ → ℕ → ℕ → G) (n : ℕ) (fam : Exchanges r apply make n) where
  -- ---- a gate that was asked for, applied to all entries of a permutation

  module _ (k a d : ℕ) (w : DigitChange r n k a d) (t : List ℕ) (perm : Permutation (r ^ n) t) where
    pub entry_after : (p : ℕ) → p < r ^ n → get_or (map (apply (make n k a d)) t) p 0 ≡ apply (make n k a d) (get_or t p 0)
    entry_after p lt = map_at (apply (make n k a d)) t p 0 0 (omega (arith, perm.size))

    -- what an entry is afterwards says what it was
    entry_before : (p q : ℕ) → p < r ^ n → q < r ^ n → get_or (map (apply (make n k a d)) t) p 0 ≡ apply (make n k a d) q → get_or t p 0 ≡ q
    entry_before p q lp lq e =
        sym (fam.twice k a d w (get_or t p 0) (perm.within p lp)) ∙ ap (apply (make n k a d)) (sym (entry_after p lp) ∙ e) ∙ fam.twice k a d w q lq

    pub permutation_after : Permutation (r ^ n) (map (apply (make n k a d)) t)
    permutation_after =
        record {
          size = length-map t (apply (make n k a d)) ∙ perm.size;
          within = λ p lp. rw (entry_after p lp) (fam.keeps k a d w (get_or t p 0) (perm.within p lp));
          apart = λ p q lp lq e. perm.apart p q lp lq (entry_before p (get_or t q 0) lp (perm.within q lq) (e ∙ entry_after q lq));
        }

    onto_before : Onto r n (map (apply (make n k a d)) t) → Onto r n t
    onto_before f q lq =
        let x = f (apply (make n k a d) q) (fam.keeps k a d w q lq) in
        (x.0, x.1, entry_before x.0 q x.1 lq x.2)

  -- ---- what holds of every state on the way from the table t

  module _ (t : List ℕ) where
    pub record Kept (s : State G) : Type 0 where
      pub perm : Permutation (r ^ n) s.table
      pub back : (p : ℕ) → p < r ^ n → through apply s.found (get_or s.table p 0) ≡ get_or t p 0
      pub onto : Onto r n s.table → Onto r n t
      pub made : Each (Made r apply make n) s.found

    -- the rows below i are done
    pub record Done (i : ℕ) (s : State G) : Type 0 where
      pub kept : Kept s
      pub settled : (j : ℕ) → j < i → get_or s.table j 0 ≡ j

    -- and of row i, whose entry was a, the digits below k, after c gates
    pub record Under (i a c k : ℕ) (s : State G) : Type 0 where
      pub done : Done i s
      pub entry : get_or s.table i 0 ≡ mixed r k a i
      pub count : length s.found ≡ c + differing r k a i

    -- one more gate
    kept_adding : (k a d : ℕ) (s : State G) → DigitChange r n k a d → Kept s → Kept (adding r apply make (make n k a d) s)
    unfolding adding
    kept_adding k a d s w h =
        record {
          perm = permutation_after k a d w s.table h.perm;
          back =
              λ p lp.
              through_cons apply (make n k a d) s.found _
              ∙ ap (λ (q : ℕ). through apply s.found (apply (make n k a d) q)) (entry_after k a d w s.table h.perm p lp)
              ∙ ap (through apply s.found) (fam.twice k a d w (get_or s.table p 0) (h.perm.within p lp))
              ∙ h.back p lp;
          onto = λ f. h.onto (onto_before k a d w s.table h.perm f);
          made = (record { k = k; a = a; d = d; change = w; is = refl }, h.made);
        }

    -- ---- one digit of a row

    module _ (i a c k : ℕ) (s : State G) (below : i < r ^ n) (ge : i ≤ a) (line : k < n) (u : Under i a c k s) where
      -- the entry's digit k is that of a
      of_a : digit r k (get_or s.table i 0) ≡ digit r k a
      of_a = ap (digit r k) u.entry ∙ mixed_digit r pos k a i

      next_entry : put r k (get_or s.table i 0) (digit r k i) ≡ mixed r (suc k) a i
      next_entry = ap (λ (x : ℕ). put r k x (digit r k i)) u.entry ∙ mixed_put r pos k a i

      under_same : digit r k (get_or s.table i 0) ≡ digit r k i → Under i a c (suc k) (digit_step r apply make n i k s)
      under_same e =
          rw (step_same r apply make n i k s e)
          (record {
            done = u.done;
            entry = sym (put_same r k (get_or s.table i 0)) ∙ ap (put r k (get_or s.table i 0)) e ∙ next_entry;
            count = u.count ∙ ap (λ (m : ℕ). c + m) (sym (differing_same r k a i (sym of_a ∙ e)));
          })

      module _ (ne : digit r k (get_or s.table i 0) ≡ digit r k i → ⊥) where
        change : DigitChange r n k (get_or s.table i 0) (digit r k i)
        change = record { line = line; pattern = u.done.kept.perm.within i below; value = digit_lt r k i pos; differs = ne }

        entry_added : (p : ℕ) → p < r ^ n
            → get_or (adding r apply make (make n k (get_or s.table i 0) (digit r k i)) s).table p 0 ≡ apply (make n k (get_or s.table i 0) (digit r k i)) (get_or s.table p 0)
        unfolding adding
        entry_added p lp = entry_after k (get_or s.table i 0) (digit r k i) change s.table u.done.kept.perm p lp

        -- neither of the two patterns that change places is below i
        stays : (j : ℕ) → j < i → get_or (adding r apply make (make n k (get_or s.table i 0) (digit r k i)) s).table j 0 ≡ j
        stays j lt =
            entry_added j (omega arith)
            ∙ ap (apply (make n k (get_or s.table i 0) (digit r k i))) (u.done.settled j lt)
            ∙ fam.others k (get_or s.table i 0) (digit r k i) change j (omega arith) (λ e. omega (arith, e ∙ u.entry, mixed_ge r pos k a i ge))
            (λ e. omega (arith, e ∙ next_entry, mixed_ge r pos (suc k) a i ge))

        longer : length (adding r apply make (make n k (get_or s.table i 0) (digit r k i)) s).found ≡ suc (length s.found)
        unfolding adding
        longer = refl

        under_other : Under i a c (suc k) (digit_step r apply make n i k s)
        under_other =
            rw (step_other r apply make n i k s ne)
            (record {
              done = record { kept = kept_adding k (get_or s.table i 0) (digit r k i) s change u.done.kept; settled = stays };
              entry = entry_added i below ∙ fam.there k (get_or s.table i 0) (digit r k i) change ∙ next_entry;
              count = omega (arith, longer, u.count, differing_other r k a i (λ e. ne (of_a ∙ e)));
            })

      under_step : Under i a c (suc k) (digit_step r apply make n i k s)
      under_step = go (ℕ_discrete (digit r k (get_or s.table i 0)) (digit r k i))
        where
          go : Dec (digit r k (get_or s.table i 0) ≡ digit r k i) → Under i a c (suc k) (digit_step r apply make n i k s)
          go (yes e) = under_same e
          go (no ne) = under_other ne

    -- ---- a row, and all rows

    -- the settled entries are below i, so that of row i is not
    pub entry_ge : (i : ℕ) (s : State G) → i < r ^ n → Done i s → i ≤ get_or s.table i 0
    entry_ge i s below d =
        ⊎_elim (λ (l : get_or s.table i 0 < i). let e = d.kept.perm.apart (get_or s.table i 0) i (omega arith) below (d.settled _ l) in absurd (omega arith))
        (λ (l : i ≤ get_or s.table i 0). l) (lt_or_le (get_or s.table i 0) i)

    module _ (i : ℕ) (s : State G) (below : i < r ^ n) (d : Done i s) where
      under_row : (k : ℕ) → k ≤ n → Under i (get_or s.table i 0) (length s.found) k (row_steps r apply make n i k s)
      unfolding row_steps
      under_row zero le = record { done = d; entry = sym (mixed_none r _ i); count = rw (differing_none r _ i) (sym (add-zero _)) }
      under_row (suc k) le = under_step i _ _ k (row_steps r apply make n i k s) below (entry_ge i s below d) le (under_row k (omega arith))

      -- a row has as many gates as its entry has digits that differ
      pub row_count : length (row_steps r apply make n i n s).found ≡ length s.found + differing r n (get_or s.table i 0) i
      row_count = (under_row n (le_refl n)).count

      done_row : Done (suc i) (row_steps r apply make n i n s)
      done_row =
          let u = under_row n (le_refl n) in
          record {
            kept = u.done.kept;
            settled =
                λ j lt.
                ⊎_elim (λ (e : j ≡ i). rw e (u.entry ∙ mixed_all r pos n _ i (d.kept.perm.within i below) below)) (λ (l : j < i). u.done.settled j l)
                (eq-or-lt_of_le (le_of_suc-le-suc lt));
          }

    module _ (perm : Permutation (r ^ n) t) where
      done_begun : Done 0 (begun t)
      done_begun = record { kept = record { perm = perm; back = λ p lp. through_nil apply _; onto = λ f. f; made = tt }; settled = λ j lt. absurd (omega arith) }

      -- the rows below i, once settled, stay settled
      pub done_rows : (i : ℕ) → i ≤ r ^ n → Done i (rows r apply make n i (begun t))
      unfolding rows
      done_rows zero le = done_begun
      done_rows (suc i) le = done_row i (rows r apply make n i (begun t)) le (done_rows i (omega arith))

      -- no pattern is missed
      pub reaches : Onto r n t
      reaches = let d = done_rows (r ^ n) (le_refl _) in d.kept.onto (λ q lq. (q, lq, d.settled q lq))

      -- after the last row the entries are the identity
      pub settles : (p : ℕ) → p < r ^ n → get_or (settled r apply make n t).table p 0 ≡ p
      unfolding settled
      settles p lp = (done_rows (r ^ n) (le_refl _)).settled p lp

      -- each gate found was asked for
      pub gates_made : Each (Made r apply make n) (cascade_for r apply make n t)
      unfolding cascade_for settled
      gates_made = (done_rows (r ^ n) (le_refl _)).kept.made

      -- the cascade computes the table
      pub computes : (p : ℕ) → p < r ^ n → through apply (cascade_for r apply make n t) p ≡ get_or t p 0
      unfolding cascade_for settled
      computes p lp =
          let d = done_rows (r ^ n) (le_refl _) in
          ap (through apply (rows r apply make n (r ^ n) (begun t)).found) (sym (d.settled p lp)) ∙ d.kept.back p lp
