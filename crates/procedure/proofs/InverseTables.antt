-- The inverse table of a permutation: it undoes the table on both sides (`inverse_entry`, `entry_inverse`), and is a permutation itself. It rests on `onto`.
-- Assumes nothing.
use mathlib.Core.Path.{◌≡◌, refl, sym, ap, ◌∙◌, subst}
use mathlib.Core.List.{List}
use Prim.Native.Nat.{ℕ, ◌^◌, ◌<◌}
use native.Mathlib.Nat.{zero-add}
use native.Mathlib.Omega.{arith}
use lib.Dec.{eqb}
use lib.ListN.{length, get_or}
use borrow.Author.Tests.{eq-eqb, ne_eqb}
use Rattle.ranges.specs.Ranges.{first}
use Rattle.ranges.proofs.Spans.{length_span, span_at}
use Rattle.ranges.proofs.Searches.{found, found_unique}
use Rattle.tables.specs.Permutations.{Permutation, inverse_table}
use Rattle.procedure.proofs.Pairs.{onto}

module _ (r n : ℕ) (t : List ℕ) (pos : 0 < r) (perm : Permutation (r ^ n) t) where
  inverse_size : length (inverse_table (r ^ n) t) ≡ r ^ n
  unfolding inverse_table
  inverse_size = length_span (λ q. first (λ p. eqb (get_or t p 0) q) 0 (r ^ n)) 0 (r ^ n)

  -- the first row that holds the entry of row p is row p
  first_row : (p : ℕ) → p < r ^ n → first (λ j. eqb (get_or t j 0) (get_or t p 0)) 0 (r ^ n) ≡ p
  first_row p lp =
      found_unique (λ j. eqb (get_or t j 0) (get_or t p 0)) 0 (r ^ n) _ p
      (rw (zero-add (r ^ n)) at (found (λ j. eqb (get_or t j 0) (get_or t p 0)) 0 (r ^ n)))
      (record {
        from = omega arith;
        within = omega arith;
        before = λ j le lt. ne_eqb (get_or t j 0) (get_or t p 0) (λ e. let same = perm.apart j p (omega arith) lp e in omega arith);
        hit = λ lt. eq-eqb (get_or t p 0) (get_or t p 0) refl;
      })

  pub inverse_entry : (p : ℕ) → p < r ^ n → get_or (inverse_table (r ^ n) t) (get_or t p 0) 0 ≡ p
  unfolding inverse_table
  inverse_entry p lp =
      span_at (λ q. first (λ j. eqb (get_or t j 0) q) 0 (r ^ n)) 0 (r ^ n) (get_or t p 0) 0 (perm.within p lp)
      ∙ rw (zero-add (get_or t p 0)) (first_row p lp)

  -- what holds of each entry holds of each pattern
  each_pattern : (P : ℕ → Type 0) → ((p : ℕ) → p < r ^ n → P (get_or t p 0)) → (q : ℕ) → q < r ^ n → P q
  each_pattern P h q lq = let x = onto r n t pos perm q lq in subst P x.2 (h x.0 x.1)

  pub entry_inverse : (q : ℕ) → q < r ^ n → get_or t (get_or (inverse_table (r ^ n) t) q 0) 0 ≡ q
  entry_inverse = each_pattern (λ q. get_or t (get_or (inverse_table (r ^ n) t) q 0) 0 ≡ q) (λ p lp. ap (λ (x : ℕ). get_or t x 0) (inverse_entry p lp))

  pub inverse_within : (q : ℕ) → q < r ^ n → get_or (inverse_table (r ^ n) t) q 0 < r ^ n
  inverse_within = each_pattern (λ q. get_or (inverse_table (r ^ n) t) q 0 < r ^ n) (λ p lp. rw (inverse_entry p lp) lp)

  pub inverse_permutation : Permutation (r ^ n) (inverse_table (r ^ n) t)
  inverse_permutation =
      record {
        size = inverse_size;
        within = inverse_within;
        apart = λ p q lp lq e. sym (entry_inverse p lp) ∙ ap (λ (x : ℕ). get_or t x 0) e ∙ entry_inverse q lq;
      }
