use Rattle.std.proofs.Common.{◌≡◌, ℕ, ◌-◌, List, length}
use Rattle.std.specs.Slice.Iter.{chunks_exact_rest, chunks_exact_size}
use Rattle.ranges.specs.Ranges.{span}
use Rattle.cascades.specs.Cascades.{gate_in, records}
use Rattle.texts.specs.GateTexts.{gate_texts}
use Rattle.texts.specs.declared.storing.Writer.{Writer}
use Rattle.texts.specs.Inner.StoredTexts.{HasRoom, Wrote}
use Rattle.texts.specs.Inner.Names.{name_in}
use Rattle.texts.proofs.Walks.{Walking}
use Rattle.texts.proofs.gate_texts.write_gate_texts.Given as goal

-- the lines of i gates are written, and there is room for those of the others
pub record Going (names : List (List ℕ × ℕ)) (b rest : List ℕ) (i : ℕ) (out₀ out : Writer) : Type 0 where
  pub walking : Walking b i rest
  pub wrote : Wrote out₀ (gate_texts (name_in names) (span (gate_in b) 0 i)) out
  pub ahead : HasRoom out (gate_texts (name_in names) (span (gate_in b) i (records b - i)))

abbrev pub invariant-loop-record : goal.invariant-loop-record
invariant-loop-record l =
    (chunks_exact_size l.record-iterator ≡ 8) × (length l.line ≡ 48) × Going l.names l.cascade (chunks_exact_rest l.record-iterator) (length l.yielded) l.initial.out l.out
