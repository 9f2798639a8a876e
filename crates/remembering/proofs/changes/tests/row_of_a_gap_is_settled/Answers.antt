-- `remembering::changes::tests::row_of_a_gap_is_settled` may call what it calls: the eight bytes are a gate on one line. Assumes nothing.
use Rattle.std.proofs.Common.{◌≡◌, true, false, List, [], ◌∷◌, ℕ, zero, suc, ◌*◌, ◌<◌, refl, ap, arith}
use Rattle.ranges.specs.Ranges.{every}
use Rattle.ranges.specs.Lists.{Each}
use Rattle.ranges.proofs.Lists.{each_imp}
use Rattle.card.specs.Card.{lines_ok}
use Rattle.gates.specs.Gates.{IsGate}
use Rattle.gates.specs.Records.{line_ok, lines_ok_at, is_record}
use Rattle.cascades.specs.Cascades.{gates_of}
use Rattle.cascades.specs.Inner.Checked.{Whole}
use Rattle.cascades.proofs.Cascades.{gates_count}
use Rattle.remembering.specs.declared.changes.Change.{Change}
use Rattle.remembering.specs.Inner.Buffers.{gap, is_gap, gates_in}
use Rattle.remembering.proofs.Gaps.{gate_real}
use Rattle.remembering.proofs.Buffers.{length_gates, gap_either, gates_start, holds_list, holds_start}
use Rattle.remembering.proofs.changes.tests.row_of_a_gap_is_settled.Goals as goal

abbrev bytes : List ℕ
bytes = 1 ∷ 0 ∷ 3 ∷ 3 ∷ 3 ∷ 3 ∷ 3 ∷ 3 ∷ []

whole : Whole 1 bytes 1
unfolding lines_ok line_ok lines_ok_at is_record every
whole = record { lines = refl; size = refl; most = omega arith; each = each }
  where
    each : (i : ℕ) → i < 1 → is_record 1 bytes (8 * i) ≡ true
    each zero l = refl
    each (suc i) l = absurd (omega arith)

same : gates_in bytes 1 ≡ gates_of bytes
same = holds_list bytes (gates_of bytes) 1 (holds_start 1 bytes 1 whole) (gates_count bytes)

pub new-buffer-requires : goal.new-buffer-requires
new-buffer-requires g c = (omega arith, rw same (holds_start 1 bytes 1 whole))

pub new-requires : goal.new-requires
new-requires g c = gap_either

pub settle_rows-low-requires : goal.settle_rows-low-requires
settle_rows-low-requires g c =
    let v = c.new-buffer.ensures.value in
    let e = c.new.ensures.0 in
    let place : c.new.result.place ≡ 0 = ap (λ (x : Change). x.place) e in
    let first : c.new.result.from ≡ 0 = ap (λ (x : Change). x.from) e in
    let becomes : c.new.result.gate ≡ gap = ap (λ (x : Change). x.gate) e in
    let real : Each (λ g. is_gap g ≡ false) (gates_in bytes 1) = rw same (each_imp (IsGate 6) (λ g. is_gap g ≡ false) gate_real (gates_of bytes) (gates_start 1 bytes 1 whole)) in (
      omega arith,
      (
        record {
          inside = omega (arith, place, v.1);
          early = omega (arith, place, first);
          either = rw becomes gap_either;
          seen = rw becomes c.new.ensures.1;
        },
        rw (v.0, v.1, first) (c.start.ensures.fresh c.new-memory.ensures (record { few = omega arith; far_room = omega arith; reach_room = omega arith }) (gates_in bytes 1) (length_gates bytes 1) real),
      ),
    )
