-- What a list of gates computes: it stays within the patterns of its lines; and one turn of a loop that runs over the records. Assumes nothing.
use Rattle.std.proofs.Common.{◌≡◌, ◌∙◌, List, [], ◌∷◌, ◌++◌, ℕ, suc, ◌+◌, ◌*◌, ◌^◌, ◌<◌, zero-add, arith, length}
use Rattle.ranges.specs.Ranges.{span}
use Rattle.ranges.specs.Lists.{Each}
use Rattle.ranges.proofs.Lists.{through_nil, through_cons, through_append}
use Rattle.ranges.proofs.Spans.{length_span, span_snoc, span_each}
use Rattle.card.proofs.Cards.{lines_are}
use Rattle.gates.specs.declared.Gate.{Gate}
use Rattle.gates.specs.Gates.{applied, IsGate}
use Rattle.gates.proofs.Gates.{applied_lt}
use Rattle.gates.proofs.Records.{gate_at_lem}
use Rattle.cascades.specs.Cascades.{records, gate_in, gates_of, ran, Cascade}
use Rattle.cascades.specs.Inner.Checked.{Whole}

-- running one list after another
pub run_append : (gs hs : List Gate) (p : ℕ) → ran (gs ++ hs) p ≡ ran hs (ran gs p)
run_append gs hs p = through_append applied gs hs p

pub run_lt : (n : ℕ) (gs : List Gate) (p : ℕ) → Each (IsGate n) gs → p < 3 ^ n → ran gs p < 3 ^ n
run_lt n [] p each lt = rw (through_nil applied p) lt
run_lt n (g ∷ gs) p each lt = rw (through_cons applied g gs p) (run_lt n gs (applied g p) each.1 (applied_lt n g p each.0.on_line lt))

-- the records that checking lets through are a cascade
pub gates_good : (n : ℕ) (b : List ℕ) (m : ℕ) → Whole n b m → Each (IsGate n) (gates_of b)
unfolding gates_of
gates_good n b m w =
    span_each (IsGate n) (gate_in b) 0 (records b)
    (λ i le lt. gate_at_lem n b (8 * i) (lines_are n w.lines).1 (w.each i (omega (arith, w.size))))

pub gates_count : (b : List ℕ) → length (gates_of b) ≡ records b
unfolding gates_of
gates_count b = length_span (gate_in b) 0 (records b)

pub whole_cascade : (n : ℕ) (b : List ℕ) (m : ℕ) → Whole n b m → Cascade n (gates_of b)
whole_cascade n b m w = record { gates = gates_good n b m w; most = omega (arith, gates_count b, w.size, w.most) }

-- the first i + 1 records, run
pub run_snoc : (b : List ℕ) (i p : ℕ) → ran (span (gate_in b) 0 (i + 1)) p ≡ applied (gate_in b i) (ran (span (gate_in b) 0 i) p)
run_snoc b i p =
    let e : i + 1 ≡ suc i = omega arith in
    let s : span (gate_in b) 0 (suc i) ≡ span (gate_in b) 0 i ++ (gate_in b i ∷ []) = rw (zero-add i) at (span_snoc (gate_in b) 0 i) in
    rw (e, s, run_append (span (gate_in b) 0 i) (gate_in b i ∷ []) p)
    (through_cons applied (gate_in b i) [] (ran (span (gate_in b) 0 i) p) ∙ through_nil applied (applied (gate_in b i) (ran (span (gate_in b) 0 i) p)))
