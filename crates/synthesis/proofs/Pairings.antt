-- A table with its inverse beside it: two values change places by four stores (`table_stores`, `exchange_paired`), and the inverse that a check
-- leaves is the inverse on both sides (`inverted_paired`), since a permutation reaches every pattern. Assumes nothing.
use Rattle.std.proofs.Common.{◌≡◌, sym, ap, ◌∙◌, List, map, ℕ, ◌^◌, ◌≤◌, ◌<◌, arith, length, get_or, set, length-set}
use Rattle.std.proofs.Common.{ext_get_or}
use Rattle.std.proofs.lemmas.List.{length-map}
use Rattle.std.proofs.lemmas.Grind.{common_steps}
use Rattle.std.proofs.lemmas.Bool.Decides.{nat_tests}
use Rattle.ranges.proofs.Lists.{map_at}
use Rattle.digits.proofs.Sizes.{three_pos}
use Rattle.tables.specs.Permutations.{Permutation}
use Rattle.tables.specs.Inner.Inverses.{Inverted}
use Rattle.procedure.specs.Inner.Exchanges.{exchanged}
use Rattle.procedure.proofs.Swaps.{exchanged_twice, exchanged_lt}
use Rattle.procedure.proofs.Pairs.{onto}
use Rattle.synthesis.specs.Inner.TableSteps.{Paired, Present}

-- where x alone has a, and y alone b
stored : (t : List ℕ) (x y a b p : ℕ) → x < length t → y < length t → get_or t x 0 ≡ a → get_or t y 0 ≡ b → (get_or t p 0 ≡ a → p ≡ x) → (get_or t p 0 ≡ b → p ≡ y)
    → get_or (set (set t x b) y a) p 0 ≡ exchanged a b (get_or t p 0)
unfolding exchanged
stored t x y a b p lx ly ea eb na nb = grind (arith, common_steps, nat_tests)

-- ---- two values change places: a, which stands in row x, and b, which stands in row y

module _ (t v : List ℕ) (w : Paired t v) (a b : ℕ) (la : a < length t) (lb : b < length t) where
  abbrev x : ℕ
  x = get_or v a 0

  abbrev y : ℕ
  y = get_or v b 0

  back_a : (x < length v) × (get_or t x 0 ≡ a)
  back_a = w.back a (omega (arith, w.size))

  back_b : (y < length v) × (get_or t y 0 ≡ b)
  back_b = w.back b (omega (arith, w.size))

  pub rows : (x < length t) × (y < length t)
  rows = (omega (arith, back_a.0, w.size), omega (arith, back_b.0, w.size))

  moved : (p : ℕ) → p < length t → get_or (map (exchanged a b) t) p 0 ≡ exchanged a b (get_or t p 0)
  moved p lp = map_at (exchanged a b) t p 0 0 lp

  entry : (p : ℕ) → p < length t → get_or (set (set t x b) y a) p 0 ≡ exchanged a b (get_or t p 0)
  entry p l = let at_a = back_a in let at_b = back_b in let there = w.there p l in stored t x y a b p rows.0 rows.1 at_a.1 at_b.1 (λ e. cc) (λ e. cc)

  pub table_stores : set (set t x b) y a ≡ map (exchanged a b) t
  table_stores =
      ext_get_or 0 _ _ (size ∙ sym (length-map t (exchanged a b)))
      (λ p lp. let l : p < length t = omega (arith, size, lp) in entry p l ∙ sym (moved p l))
    where
      size : length (set (set t x b) y a) ≡ length t
      size = length-set (set t x b) y a ∙ length-set t x b

  -- the inverse's entry at q is the row that held the value which is q now
  inverse_stores : (q : ℕ) → q < length t → get_or (set (set v a y) b x) q 0 ≡ get_or v (exchanged a b q) 0
  unfolding exchanged
  inverse_stores q lq = grind (arith, common_steps, nat_tests, w.size)

  pub exchange_paired : Paired (map (exchanged a b) t) (set (set v a y) b x)
  exchange_paired =
      let long = length-map t (exchanged a b) in
      let size = length-set (set v a y) b x ∙ length-set v a y in
      let below = exchanged_lt a b (length t) la lb in
      record {
        size = size ∙ w.size ∙ sym long;
        there =
            λ p lp.
            let l : p < length t = omega (arith, long, lp) in
            let in-range = below (get_or t p 0) (w.there p l).0 in
            rw (moved p l) (
              omega (arith, long, in-range),
              inverse_stores (exchanged a b (get_or t p 0)) in-range ∙ ap (λ (q : ℕ). get_or v q 0) (exchanged_twice a b (get_or t p 0)) ∙ (w.there p l).1,
            );
        back =
            λ q lq.
            let l : q < length t = omega (arith, size, w.size, lq) in
            let u = w.back (exchanged a b q) (omega (arith, below q l, w.size)) in
            rw (inverse_stores q l) (
              omega (arith, size, u.0),
              moved (get_or v (exchanged a b q) 0) (omega (arith, u.0, w.size)) ∙ ap (exchanged a b) u.1 ∙ exchanged_twice a b q,
            );
      }

-- ---- on n lines

pub inverted_paired : (n : ℕ) (t v : List ℕ) → Inverted (3 ^ n) t v → Paired t v
inverted_paired n t v w =
    record {
      size = w.size ∙ sym w.perm.size;
      there = λ p lp. (omega (arith, w.perm.size, w.perm.within p (omega (arith, w.perm.size))), w.back p (omega (arith, w.perm.size)));
      back = λ q lq. back q (omega (arith, w.size));
    }
  where
    back : (q : ℕ) → q < 3 ^ n → (get_or v q 0 < length v) × (get_or t (get_or v q 0) 0 ≡ q)
    back q lq =
        let o = onto 3 n t three_pos w.perm q lq in
        let row : get_or v q 0 ≡ o.0 = ap (λ (p : ℕ). get_or v p 0) (sym o.2) ∙ w.back o.0 o.1 in
        rw row (omega (arith, w.size, o.1), o.2)

pub present : (n : ℕ) (t : List ℕ) → n ≤ 6 → Permutation (3 ^ n) t → Present n t
present n t lines w = record { lines = lines; size = w.size; within = w.within }

-- two values exchanged
pub present_exchanged : (n : ℕ) (t : List ℕ) (a b : ℕ) → Present n t → a < 3 ^ n → b < 3 ^ n → Present n (map (exchanged a b) t)
present_exchanged n t a b w la lb =
    record {
      lines = w.lines;
      size = length-map t (exchanged a b) ∙ w.size;
      within = λ p lp. rw (map_at (exchanged a b) t p 0 0 (omega (arith, w.size))) (exchanged_lt a b (3 ^ n) la lb (get_or t p 0) (w.within p lp));
    }
