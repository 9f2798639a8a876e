-- Demand 3. An accepted table's cascade stays within the bound. Tidying a well-formed cascade keeps what it computes, raises neither gate count nor cost, whatever
-- the global control value and the fitted set, ends where no open pair fits a rule, and reports the procedure's rule uses, at most gates plus controls given. Assumes nothing.
use Prim.Native.Nat.{ℕ, ◌-◌, ◌*◌, ◌/◌, ◌^◌, ◌≤◌}
use mathlib.Core.Path.{◌≡◌, refl, ap}
use mathlib.Core.Bool.{true}
use mathlib.Core.List.{List, [], ◌∷◌, ◌++◌, map}
use native.Mathlib.Omega.{arith}
use lib.ListN.{length, replicate, length-append}
use lib.Seq.{drop_at}
use Rattle.ranges.specs.Ranges.{span}
use Rattle.ranges.specs.Lists.{total}
use Rattle.card.specs.Card.{Answer.accepted, lines_ok, laid}
use Rattle.card.proofs.Cards.{lines_are, after_accepted}
use Rattle.gates.specs.declared.Gate.{Gate}
use Rattle.tables.specs.Permutations.{Permutation}
use Rattle.cascades.specs.Cascades.{records, gate_in, gates_of, bytes_of, Cascade}
use Rattle.cascades.proofs.Cascades.{whole_cascade}
use Rattle.cascades.proofs.Stored.{length_bytes, laid_gates}
use Rattle.cascades.proofs.Checks.{check_whole}
use Rattle.pricing.specs.Prices.{plain_price, cascade_price}
use Rattle.pricing.proofs.Costs.{all_fitted}
use Rattle.synthesis.specs.Synthesis.{bound, synthesized}
use Rattle.synthesis.proofs.Synthesis.{synthesized_bound}
use Rattle.rules.specs.Tidying.{tidied, tidy_answer, tidy_buffer}
use Rattle.rules.proofs.Promises.{tidied_keeps, tidied_count, tidied_cost, tidied_cascade, tidied_ends, tidied_steps, tidied_few}
use Rattle.demands.specs.Worth.{TidyWorth}
use Rattle.demands.proofs.One.{check_cascade, tidy}

-- at most n 3^n - (3^n - 1) / 2 gates
pub within_the_bound : (n : ℕ) (t : List ℕ) → lines_ok n ≡ true → Permutation (3 ^ n) t → length (synthesized n t) ≤ n * 3 ^ n - (3 ^ n - 1) / 2
unfolding bound
within_the_bound n t lines perm = synthesized_bound n t (lines_are n lines).1 perm

-- which for one to six lines are these
pub bounds_printed : map bound (1 ∷ 2 ∷ 3 ∷ 4 ∷ 5 ∷ 6 ∷ []) ≡ 2 ∷ 14 ∷ 68 ∷ 284 ∷ 1094 ∷ 4010 ∷ []
unfolding bound
bounds_printed = refl

-- with all operators fitted the price is document 01's
pub price_of_document_01 : (v : ℕ) (gs : List Gate) → cascade_price v 7 gs ≡ total (plain_price v) gs
price_of_document_01 = all_fitted

-- what tidying is worth for the gates of a cascade on n lines
pub tidy_worth : (n : ℕ) (gs : List Gate) → Cascade n gs → TidyWorth n gs
tidy_worth n gs c =
    record {
      cascade = tidied_cascade n gs c;
      keeps = tidied_keeps n gs c;
      no_more_gates = tidied_count n gs c;
      no_dearer = tidied_cost n gs c;
      ends = tidied_ends gs;
      rule_uses = tidied_steps gs;
      few_steps = tidied_few gs;
    }

-- and so for every cascade that the call accepts
pub tidy_accepted : (n : ℕ) (b : List ℕ) → tidy_answer n b ≡ accepted (length (tidied (gates_of b)).left ∷ (tidied (gates_of b)).steps ∷ []) → TidyWorth n (gates_of b)
tidy_accepted n b e =
    let checked = (check_cascade n b).accepts.1 ((tidy n b).accepts.0 e) in
    tidy_worth n (gates_of b) (whole_cascade n b (records b) (check_whole n b (records b ∷ []) checked))

-- and the records left at the start of the buffer are the gates left
pub tidied_in_the_buffer : (n : ℕ) (b : List ℕ) → tidy_answer n b ≡ accepted (length (tidied (gates_of b)).left ∷ (tidied (gates_of b)).steps ∷ [])
    → span (gate_in (tidy_buffer n b)) 0 (length (tidied (gates_of b)).left) ≡ (tidied (gates_of b)).left
unfolding tidy_buffer laid
tidied_in_the_buffer n b e =
    let gs : List Gate = (tidied (gates_of b)).left in
    let zeros : List ℕ = replicate (8 * (records b - length gs)) 0 in
    let whole : laid (bytes_of gs) (bytes_of gs ++ zeros) ≡ bytes_of gs ++ zeros = ap (λ (l : List ℕ). bytes_of gs ++ l) (drop_at (bytes_of gs) zeros (length (bytes_of gs)) refl) in
    let fits : 8 * length gs ≤ length (bytes_of gs ++ zeros) = rw (length-append (bytes_of gs) zeros, length_bytes gs) (omega arith) in
    rw (after_accepted (tidy_answer n b) (length gs ∷ (tidied (gates_of b)).steps ∷ []) (bytes_of gs ++ zeros) b e)
    (rw whole at (laid_gates n gs (bytes_of gs ++ zeros) (tidy_accepted n b e).cascade.gates fits))
