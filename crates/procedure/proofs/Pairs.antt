-- A permutation reaches every pattern, in any radix: the procedure works with abstract exchanges, where a gate is a pair of patterns that change places, and so
-- `reaches` holds with no gates at all in the statement and no counting of patterns. Assumes nothing.
use mathlib.Core.List.{List}
use Prim.Native.Nat.{ℕ, ◌^◌, ◌<◌}
use Rattle.digits.specs.Digits.{put}
use Rattle.digits.proofs.Digits.{put_lt}
use Rattle.tables.specs.Permutations.{Permutation}
use Rattle.procedure.specs.Inner.Exchanges.{exchanged}
use Rattle.procedure.proofs.Families.{Exchanges}
use Rattle.procedure.proofs.Settles.{Onto, reaches}
use Rattle.procedure.proofs.Swaps.{at_one, at_none, exchanged_twice, exchanged_lt}

record Pair : Type 0 where
  one : ℕ
  other : ℕ

abbrev swapped : Pair → ℕ → ℕ
swapped g p = exchanged g.one g.other p

module _ (r n : ℕ) where
  abbrev pair : ℕ → ℕ → ℕ → ℕ → Pair
  pair m k a d = record { one = a; other = put r k a d }

  pairs : Exchanges r swapped pair n
  pairs =
      record {
        twice = λ k a d w p lp. exchanged_twice a (put r k a d) p;
        keeps = λ k a d w p lp. exchanged_lt a (put r k a d) (r ^ n) w.pattern (put_lt r n k a d w.pattern w.line w.value) p lp;
        there = λ k a d w. at_one a (put r k a d);
        others = λ k a d w p lp na nb. at_none a (put r k a d) p na nb;
      }

-- a permutation reaches every pattern
pub onto : (r n : ℕ) (t : List ℕ) → 0 < r → Permutation (r ^ n) t → Onto r n t
onto r n t pos perm = reaches r pos swapped (pair r n) n (pairs r n) t perm
