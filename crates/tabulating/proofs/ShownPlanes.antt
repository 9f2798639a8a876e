-- What planes say: `entry_shown`, that the entry for an input is the pattern that they show, and so `shown_table`, that they have the table of the
-- gates that they went through. Assumes nothing.
use Rattle.std.proofs.Common.{◌≡◌, refl, ◌∙◌, cond, List, [], ℕ, ◌+◌, ◌*◌, ◌^◌, ◌≤◌, ◌<◌, get_or, lt_of_lt_of_le, arith}
use Rattle.ranges.specs.Ranges.{span}
use Rattle.ranges.specs.Lists.{Each}
use Rattle.ranges.proofs.Spans.{span_ext}
use Rattle.digits.specs.Digits.{digit}
use Rattle.digits.proofs.Digits.{digit_lt}
use Rattle.digits.proofs.Packs.{pack_ext, pack_digits}
use Rattle.digits.proofs.Sizes.{patterns_most}
use Rattle.digits.proofs.ThreeCases.{three}
use Rattle.gates.specs.declared.Gate.{Gate}
use Rattle.gates.specs.Gates.{holds, IsGate}
use Rattle.cascades.specs.Cascades.{ran, table_for, table_of}
use Rattle.cascades.proofs.Cascades.{run_lt}
use Rattle.tabulating.specs.Inner.Planes.{Shows, digit_on, entry_of}

-- the words for 1 and 2 of a line that holds x
digit_shown : (x : ℕ) → x < 3 → cond (holds 1 x) 1 0 + 2 * cond (holds 2 x) 1 0 ≡ x
unfolding holds
digit_shown = three (λ x. cond (holds 1 x) 1 0 + 2 * cond (holds 2 x) 1 0 ≡ x) refl refl refl

entry_shown : (n : ℕ) (b : List (List (List ℕ))) (f : ℕ → ℕ) (p : ℕ) → Shows n b f → p < n → f p < 729 → entry_of b p ≡ f p
unfolding entry_of
entry_shown n b f p shows lp small = pack_ext 3 _ _ 6 (λ k lk. on_line k lk) ∙ pack_digits 3 6 (f p) (omega arith) small
  where
    on_line : (k : ℕ) → k < 6 → digit_on (get_or b k []) p ≡ digit 3 k (f p)
    on_line k lk =
        let line = shows.line k lk in
        rw (line.plane 1 (omega arith) p lp, line.plane 2 (omega arith) p lp) (digit_shown (digit 3 k (f p)) (digit_lt 3 k (f p) (omega arith)))

pub shown_table : (n : ℕ) (b : List (List (List ℕ))) (gs : List Gate) → n ≤ 6 → Each (IsGate n) gs → Shows (3 ^ n) b (ran gs) → span (entry_of b) 0 (3 ^ n) ≡ table_of n gs
unfolding table_for
shown_table n b gs six each shows =
    span_ext (entry_of b) (ran gs) 0 (3 ^ n)
    (λ p low lt.
    entry_shown (3 ^ n) b (ran gs) p shows (omega arith) (lt_of_lt_of_le (run_lt n gs p each (omega arith)) (patterns_most n six)))
