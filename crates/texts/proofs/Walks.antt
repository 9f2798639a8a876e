-- A loop over the records of a cascade: after i of them the rest is what the cascade has from place 8 * i on. Assumes nothing.
use Rattle.std.proofs.Common.{◌≡◌, refl, sym, ap, ◌∙◌, List, ◌++◌, ℕ, ◌+◌, ◌*◌, ◌≤◌, ◌<◌, length, get_or, drop, length-drop, length-append, get_or-drop, drop-drop, arith}
use Rattle.std.proofs.Math.ListN.{get_or-append}
use Rattle.std.proofs.Math.Seq.{drop-append_seam}
use Rattle.gates.specs.Inner.Words.{Word}
use Rattle.cascades.specs.Cascades.{records}

pub record Walking (b : List ℕ) (i : ℕ) (rest : List ℕ) : Type 0 where
  pub within : i ≤ records b
  pub left : rest ≡ drop (8 * i) b

pub walking_start : (b : List ℕ) → Walking b 0 b
walking_start b = record { within = omega arith; left = refl }

module _ (b : List ℕ) (i : ℕ) (rest : List ℕ) (g : Walking b i rest) where
  length_left : length rest + 8 * i ≡ length b
  length_left = omega (arith, ap length g.left, length-drop (8 * i) b, g.within)

  -- the next record is x
  module _ (x more : List ℕ) (cut : rest ≡ x ++ more) (long : length x ≡ 8) where
    pub walking_more : i < records b
    walking_more = omega (arith, length_left, ap length cut, length-append x more, long)

    pub walking_word : (w : ℕ) → Word x 0 w → Word b (8 * i) w
    walking_word w word =
        record {
          low = word.low;
          bytes = λ k lt.
              let first : get_or (x ++ more) k 0 ≡ get_or x k 0 = get_or-append x more 0 k (omega (arith, long)) in
              let e : 0 + k ≡ k = omega arith in
              word.bytes k lt ∙ rw e (sym first) ∙ ap (λ (l : List ℕ). get_or l k 0) (sym cut ∙ g.left) ∙ get_or-drop (8 * i) b k 0;
        }

    pub walking_next : Walking b (i + 1) more
    walking_next =
        let e : 8 * i + length x ≡ 8 * (i + 1) = omega (arith, long) in
        record {
          within = omega (arith, walking_more);
          left = sym (drop-append_seam x more) ∙ ap (drop (length x)) (sym cut ∙ g.left) ∙ drop-drop (length x) (8 * i) b ∙ ap (λ (k : ℕ). drop k b) e;
        }

  pub walking_end : length rest < 8 → i ≡ records b
  walking_end lt = omega (arith, length_left, g.within)
