-- Demand 1 for the two calls that hand a reference back: what `cheaper` and `open` promise, read by the rows of the card; and the rules by which one of
-- two cascades is the cheaper. Assumes nothing.
use Prim.Native.Nat.{ℕ}
use mathlib.Core.Path.{ap, ◌∙◌}
use mathlib.Core.List.{List}
use native.Mathlib.Omega.{arith}
use lib.ListN.{length, get_or}
use borrow.Author.Tests.{lt-ltb, le-ltb, eq-eqb, ne_eqb}
use denote.Ref.{Bor}
use Rattle.gates.specs.declared.Gate.{Gate}
use Rattle.pricing.specs.Prices.{cascade_price}
use Rattle.choice.specs.Choice.{second_wins, choose_answer, Handed}
use Rattle.readers.specs.declared.Reader.{Reader}
use Rattle.readers.specs.Readers.{Opened}
use Rattle.demands.specs.Worth.{CheaperIs}
use Rattle.demands.specs.Lent.{HandedBack, OpenedBy}
use Rattle.demands.proofs.One.{choose, opening}

-- the three rules of the choice
pub cheaper_is : (v s : ℕ) (gs hs : List Gate) → CheaperIs v s gs hs (second_wins v s gs hs)
unfolding second_wins
cheaper_is v s gs hs =
    let one = cascade_price v s gs in
    let two = cascade_price v s hs in
    record {
      less_cost = λ lt. rw (lt-ltb two one lt);
      more_cost = λ lt. rw (le-ltb two one (omega arith), ne_eqb two one (λ e. omega arith));
      fewer_gates = λ e lt. rw (le-ltb two one (omega arith), eq-eqb two one e, lt-ltb (length hs) (length gs) lt);
      the_first = λ e le. rw (le-ltb two one (omega arith), eq-eqb two one e, le-ltb (length hs) (length gs) le);
    }

pub cheaper : (n v s : ℕ) (one two r : Bor (List ℕ)) → Handed (choose_answer n v s one.now two.now) one two r → HandedBack n v s one two r
cheaper n v s one two r h =
    let exactly = choose n v s one.now two.now in
    record {
      second = λ none e. h.the_second (exactly.accepts.1 none ∙ rw e);
      first = λ none e. h.the_first (exactly.accepts.1 none ∙ rw e);
      none = λ k p rows. let e = h.none k p ((exactly.refusals k p).1 rows) in record { start = e.0; empty = e.1 };
    }

pub opened : (f : Bor (List ℕ)) (r : Reader) → Opened f r → OpenedBy f r
opened f r o =
    let exactly = opening f.now in
    record {
      file = λ none. (o.found _ (exactly.accepts.1 none)).0;
      lines = λ none. ap (λ (l : List ℕ). get_or l 0 0) (o.found _ (exactly.accepts.1 none)).1;
      at = λ none. ap (λ (l : List ℕ). get_or l 1 0) (o.found _ (exactly.accepts.1 none)).1;
      end = λ none. ap (λ (l : List ℕ). get_or l 2 0) (o.found _ (exactly.accepts.1 none)).1;
      none = λ k p rows.
          let e = o.none k p ((exactly.refusals k p).1 rows) in (
            record { start = e.0; empty = e.1 },
            ap (λ (l : List ℕ). get_or l 0 0) e.2,
            ap (λ (l : List ℕ). get_or l 1 0) e.2,
            ap (λ (l : List ℕ). get_or l 2 0) e.2,
          );
    }
