use Rattle.std.proofs.Common.{◌≡◌, ℕ, ◌*◌, ◌≤◌, List, length}
use Rattle.std.specs.Slice.Iter.{chunks_exact_rest, chunks_exact_size}
use Rattle.ranges.specs.Ranges.{span}
use Rattle.cascades.specs.Cascades.{gate_in}
use Rattle.texts.specs.GateTexts.{gate_texts}
use Rattle.texts.specs.Inner.Names.{name_in}
use Rattle.texts.proofs.Walks.{Walking}
use Rattle.texts.proofs.gate_texts.size_gate_texts.Given as goal

-- the bytes of the lines of i gates
pub record Going (names : List (List ℕ × ℕ)) (b rest : List ℕ) (i size : ℕ) : Type 0 where
  pub walking : Walking b i rest
  pub so_far : size ≡ length (gate_texts (name_in names) (span (gate_in b) 0 i))
  pub small : size ≤ 31 * i

abbrev pub invariant-loop-record : goal.invariant-loop-record
invariant-loop-record l =
    (chunks_exact_size l.record-iterator ≡ 8) × Going l.names l.cascade (chunks_exact_rest l.record-iterator) (length l.yielded) l.size
