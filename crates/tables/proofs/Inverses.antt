-- The pass that fills a table's inverse finds the first entry that equals an earlier one: before entry i each value leads back to its row, so a value stood
-- before exactly if its place names an earlier row that holds it. Assumes nothing.
use Rattle.std.proofs.Common.{◌≡◌, sym, ap, ◌∙◌, List, ℕ, ◌+◌, ◌-◌, ◌≤◌, ◌<◌, arith, length, get_or, set, take, get_or-set_same, get_or-set_other, get_or-take, length-take-le, eqb, eq-eqb, ne_eqb, below_more}
use Rattle.std.proofs.Math.Nat.{sub-zero}
use Rattle.ranges.specs.Ranges.{first}
use Rattle.ranges.proofs.Tests.{some_hit, some_not}
use Rattle.ranges.proofs.Searches.{first_more, first_hit, first_ends}
use Rattle.tables.specs.Tables.{repeated, first_repeated}
use Rattle.tables.specs.Permutations.{Permutation}
use Rattle.tables.specs.Inner.Inverses.{Back, Inverted}

-- what the pass knows at entry i
pub record Inverting (t v : List ℕ) (i : ℕ) : Type 0 where
  pub within : i ≤ length t
  pub back : Back t v i
  pub left : first (repeated t) i (length t - i) ≡ first_repeated t

pub inverting_none : (t v : List ℕ) → Inverting t v 0
unfolding first_repeated
inverting_none t v = record { within = omega arith; back = λ p lt. absurd (omega arith); left = rw sub-zero }

-- entry i is x, and its place names a row
module _ (t v : List ℕ) (i : ℕ) (w : Inverting t v i) (lt : i < length t) where
  abbrev row : ℕ
  row = get_or v (get_or t i 0) 0

  pub stood : row < i → get_or t row 0 ≡ get_or t i 0 → i ≡ first_repeated t
  unfolding repeated
  stood before same =
      sym (first_hit (repeated t) (length t) i lt (some_hit (λ j. eqb (get_or t j 0) (get_or t i 0)) 0 i row (omega arith) (omega arith) (eq-eqb _ _ same))) ∙ w.left

  module _ (few : get_or t i 0 < length v) (not : row < i → get_or t row 0 ≡ get_or t i 0 → ⊥) where
    -- if an earlier row had the value, the value's place would name that row
    new : (p : ℕ) → p < i → get_or t p 0 ≡ get_or t i 0 → ⊥
    new p lp same =
        let there : row ≡ p = ap (λ (y : ℕ). get_or v y 0) (sym same) ∙ w.back p lp in
        not (omega arith) (ap (λ (j : ℕ). get_or t j 0) there ∙ same)

    pub inverting_more : Inverting t (set v (get_or t i 0) i) (i + 1)
    unfolding repeated
    inverting_more =
        record {
          within = omega arith;
          back =
              below_more (λ (p : ℕ). get_or (set v (get_or t i 0) i) (get_or t p 0) 0 ≡ p) i
              (λ p lp. get_or-set_other v (get_or t i 0) (get_or t p 0) i 0 (new p lp) ∙ w.back p lp) (get_or-set_same v (get_or t i 0) i 0 few);
          left =
              first_more (repeated t) (length t) i lt
              (some_not (λ j. eqb (get_or t j 0) (get_or t i 0)) 0 i (λ p le lp. ne_eqb _ _ (new p (omega arith)))) ∙ w.left;
        }

pub inverting_all : (t v : List ℕ) (i : ℕ) → Inverting t v i → length t ≤ i → i ≡ first_repeated t
inverting_all t v i w le = sym (first_ends (repeated t) (length t) i le) ∙ w.left

-- the pass ends at the first entry that equals an earlier one
pub back_there : (t v : List ℕ) (i : ℕ) → Inverting t v i → i ≡ first_repeated t → Back t v (first_repeated t)
back_there t v i w e = rw (← e) w.back

-- a permutation whose values all lead back is inverted, in the part of the array that has its size
pub inverted : (m : ℕ) (t v : List ℕ) (i : ℕ) → Permutation m t → m ≤ length v → length t ≤ i → Back t v i → Inverted m t (take m v)
inverted m t v i w room all back =
    record {
      perm = w;
      size = length-take-le m v room;
      back = λ p lp. get_or-take m v (get_or t p 0) 0 (w.within p lp) ∙ back p (omega (arith, w.size));
    }
