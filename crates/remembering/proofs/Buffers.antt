-- The lent buffer on the way: it holds the gates of a list, through a gate replaced and the gaps closed, and at the end its bytes are theirs.
-- A record is looked at byte by byte; that it reads as its gate rests on its being what storing that gate would leave (`standing`). Assumes nothing.
use Rattle.std.proofs.Common.{◌≡◌, refl, sym, ap, ◌∙◌, ⊎_elim, true, false, List, [], ◌∷◌, ◌++◌, ℕ, zero, suc, ◌+◌, ◌*◌, ◌/◌, ◌%◌, ◌<◌, ◌≤◌, zero-add, arith, length, get_or, set, take, length-set, length-take-le, get_or-take, get_or-set_same, get_or-set_other, get_or-append-add, ext_get_or, eqb-true}
use native.Mathlib.Decide.{ℕ_discrete}
use Rattle.std.proofs.Math.ListN.{get_or-append}
use Rattle.std.proofs.Math.Seq.{sets, length-sets}
use borrow.Author.Tests.{eqb-false}
use Rattle.ranges.specs.Lists.{Each}
use Rattle.ranges.proofs.Bools.{decide, clash}
use Rattle.ranges.proofs.Lists.{each_at, each_imp}
use Rattle.ranges.proofs.Spans.{length_span, span_at}
use Rattle.ranges.proofs.Stores.{get_d_sets, get_d_sets_below, get_d_sets_above}
use Rattle.ranges.proofs.Changes.{each_set, sets_same}
use Rattle.ranges.proofs.Counts.{by_place}
use Rattle.digits.proofs.Digits.{digit_lt}
use Rattle.card.proofs.Cards.{lines_are}
use Rattle.gates.specs.declared.Gate.{Gate}
use Rattle.gates.specs.Gates.{IsGate}
use Rattle.gates.specs.Records.{gate_at, record_of}
use Rattle.gates.proofs.Gates.{gate_wider}
use Rattle.gates.proofs.Records.{length_record, gate_written, encode_decode}
use Rattle.cascades.specs.Cascades.{records, gates_of, bytes_of}
use Rattle.cascades.specs.Inner.Checked.{Whole}
use Rattle.cascades.proofs.Cascades.{gates_good, gates_count}
use Rattle.cascades.proofs.Stored.{length_bytes}
use Rattle.rules.specs.Tidying.{gate}
use Rattle.remembering.specs.Inner.Buffers.{gates_in, gap, is_gap, GateOrGap, ungapped, rank, BufferHolds, RecordMoved, KeptOrGone}
use Rattle.remembering.proofs.Gaps.{ungapped_each, rank_start, rank_all, rank_place, rank_next_gap, rank_next, gate_ungapped, gate_real}

pub length_gates : (b : List ℕ) (m : ℕ) → length (gates_in b m) ≡ m
unfolding gates_in
length_gates b m = length_span (λ i. gate_at b (8 * i)) 0 m

-- a place below m is one of theirs
pub gates_inside : (b : List ℕ) (m q : ℕ) → q < m → q < length (gates_in b m)
gates_inside b m q lt = rw (length_gates b m) lt

pub gate_in_lem : (b : List ℕ) (m q : ℕ) → q < m → gate (gates_in b m) q ≡ gate_at b (8 * q)
unfolding gates_in
gate_in_lem b m q lt = span_at (λ i. gate_at b (8 * i)) 0 m q _ lt ∙ ap (λ (x : ℕ). gate_at b (8 * x)) (zero-add q)

-- ---- reading

-- the control bytes of a record are digits in base 4
record_line : (g : Gate) (k : ℕ) → k < 6 → get_or (record_of g) (2 + k) 0 < 4
unfolding record_of
record_line g zero lt = digit_lt 4 0 g.controls (omega arith)
record_line g (suc zero) lt = digit_lt 4 1 g.controls (omega arith)
record_line g (suc (suc zero)) lt = digit_lt 4 2 g.controls (omega arith)
record_line g (suc (suc (suc zero))) lt = digit_lt 4 3 g.controls (omega arith)
record_line g (suc (suc (suc (suc zero)))) lt = digit_lt 4 4 g.controls (omega arith)
record_line g (suc (suc (suc (suc (suc zero))))) lt = digit_lt 4 5 g.controls (omega arith)
record_line g (suc (suc (suc (suc (suc (suc k)))))) lt = absurd (omega arith)

module _ (b : List ℕ) (gs : List Gate) (w : BufferHolds b gs) (q : ℕ) (lt : q < length gs) where
  pub holds_fits : 8 * q + 8 ≤ length b
  holds_fits = omega (arith, w.room)

  pub holds_gate : GateOrGap (gate gs q)
  holds_gate = each_at GateOrGap gs _ w.gates q lt

  standing : sets b (8 * q) (record_of (gate gs q)) ≡ b
  standing = sets_same (record_of (gate gs q)) b (8 * q) 0 (λ k l. w.bytes q k lt (rw (length_record (gate gs q)) at l))

  pub holds_lines : (k : ℕ) → k < 6 → get_or b (8 * q + 2 + k) 0 < 4
  holds_lines k l =
      let e : 8 * q + 2 + k ≡ 8 * q + (2 + k) = omega arith in
      rw (e, w.bytes q (2 + k) lt (omega arith)) (record_line (gate gs q) k l)

  pub holds_reads : gate_at b (8 * q) ≡ gate gs q
  holds_reads = ap (λ (s : List ℕ). gate_at s (8 * q)) (sym standing) ∙ gate_written (gate gs q) b (8 * q) holds_fits holds_gate.packed

-- the gates that the buffer starts with are those that it holds
pub holds_list : (b : List ℕ) (gs : List Gate) (m : ℕ) → BufferHolds b gs → length gs ≡ m → gates_in b m ≡ gs
holds_list b gs m w e =
    ext_get_or _ (gates_in b m) gs (length_gates b m ∙ sym e)
    (λ q lt. let l : q < m = rw (length_gates b m) at lt in gate_in_lem b m q l ∙ holds_reads b gs w q (rw e l))

-- ---- at the start

pub gate_either : (g : Gate) → IsGate 6 g → GateOrGap g
gate_either g ok =
    record {
      op_high = ok.op_high;
      on_line = omega (arith, ok.on_line);
      packed = ok.packed;
      real = λ e. ok;
      blank = λ e. clash (is_gap g) e (gate_real g ok);
    }

pub gap_either : GateOrGap gap
unfolding is_gap
gap_either = record { op_high = omega arith; on_line = omega arith; packed = omega arith; real = λ e. clash true refl e; blank = λ e. refl }

pub gates_start : (n : ℕ) (b : List ℕ) (m : ℕ) → Whole n b m → Each (IsGate 6) (gates_of b)
gates_start n b m w = each_imp (IsGate n) (IsGate 6) (gate_wider n 6 (lines_are n w.lines).1) (gates_of b) (gates_good n b m w)

pub holds_start : (n : ℕ) (b : List ℕ) (m : ℕ) → Whole n b m → BufferHolds b (gates_of b)
unfolding gates_of
holds_start n b m w =
    let count : records b ≡ m = omega (arith, w.size) in
    let long : length (gates_of b) ≡ m = gates_count b ∙ count in
    record {
      room = omega (arith, w.size);
      gates = each_imp (IsGate 6) GateOrGap gate_either (gates_of b) (gates_start n b m w);
      bytes = λ q k lq lk.
          let l : q < m = omega arith in
          let g : gate (gates_of b) q ≡ gate_at b (8 * q) =
          span_at (λ i. gate_at b (8 * i)) 0 (records b) q _ (omega arith) ∙ ap (λ (x : ℕ). gate_at b (8 * x)) (zero-add q) in
          ap (λ (s : List ℕ). get_or s (8 * q + k) 0) (sym (encode_decode n b (8 * q) (w.each q l)))
          ∙ get_d_sets (record_of (gate_at b (8 * q))) b (8 * q) k 0 (rw (length_record (gate_at b (8 * q))) (omega (arith, w.size))) (rw (length_record (gate_at b (8 * q))) lk)
          ∙ ap (λ (x : Gate). get_or (record_of x) k 0) (sym g);
    }

-- ---- one gate replaced

pub holds_set : (b : List ℕ) (gs : List Gate) (p : ℕ) (g : Gate) → BufferHolds b gs → p < length gs → GateOrGap g
    → BufferHolds (sets b (8 * p) (record_of g)) (set gs p g)
holds_set b gs p g w lt ok =
    record {
      room = rw (length-set gs p g, length-sets b (8 * p) (record_of g)) w.room;
      gates = each_set GateOrGap gs p g w.gates ok;
      bytes = λ q k lq lk. byte q k (rw (length-set gs p g) at lq) lk (ℕ_discrete q p);
    }
  where
    eight : length (record_of g) ≡ 8
    eight = length_record g

    byte : (q k : ℕ) → q < length gs → k < 8 → Dec (q ≡ p) → get_or (sets b (8 * p) (record_of g)) (8 * q + k) 0 ≡ get_or (record_of (gate (set gs p g) q)) k 0
    byte q k lq lk (yes e) =
        rw (e, get_or-set_same gs p g _ lt) (get_d_sets (record_of g) b (8 * p) k 0 (omega (arith, eight, w.room)) (omega (arith, eight)))
    byte q k lq lk (no ne) =
        rw (get_or-set_other gs p q g _ ne)
        (by_place (get_or (sets b (8 * p) (record_of g)) (8 * q + k) 0 ≡ get_or b (8 * q + k) 0) p q
        (λ l. get_d_sets_below (record_of g) b (8 * p) (8 * q + k) 0 (omega arith))
        (λ l. get_d_sets_above (record_of g) b (8 * p) (8 * q + k) 0 (omega (arith, eight)))
        ∙ w.bytes q k lq lk)

-- ---- the gaps closed

-- the gates before place p stand one behind the other from the start on, q of them, and the records from p on are as they were
pub record Closing (gs : List Gate) (s t : List ℕ) (p q : ℕ) : Type 0 where
  pub len : length t ≡ length s
  pub inside : p ≤ length gs
  pub count : q ≡ rank gs p
  pub front : (x k : ℕ) → x < q → k < 8 → get_or t (8 * x + k) 0 ≡ get_or (record_of (gate (ungapped gs) x)) k 0
  pub rest : (y : ℕ) → 8 * p ≤ y → get_or t y 0 ≡ get_or s y 0

pub closing_start : (gs : List Gate) (s : List ℕ) → Closing gs s s 0 0
closing_start gs s =
    record { len = refl; inside = omega arith; count = sym (rank_start gs); front = λ x k a b. absurd (omega arith); rest = λ y l. refl }

module _ (gs : List Gate) (s t : List ℕ) (p q : ℕ) (h : BufferHolds s gs) (lt : p < length gs) (w : Closing gs s t p q) where
  pub closing_order : q ≤ p
  closing_order = omega (arith, w.count, rank_place gs p)

  pub closing_room : 8 * p + 8 ≤ length t
  closing_room = omega (arith, w.len, h.room)

  -- record p, still as it was
  byte_now : (k : ℕ) → k < 8 → get_or t (8 * p + k) 0 ≡ get_or (record_of (gate gs p)) k 0
  byte_now k l = w.rest (8 * p + k) (omega arith) ∙ h.bytes p k lt l

  operator_now : get_or t (8 * p) 0 ≡ (gate gs p).operator
  unfolding record_of
  operator_now = let e : 8 * p + 0 ≡ 8 * p = omega arith in rw e at (byte_now 0 (omega arith))

  pub closing_next : (u : List ℕ) (r : ℕ) → KeptOrGone t u p q r → Closing gs s u (p + 1) r
  unfolding is_gap
  closing_next u r v = ⊎_elim at_gap at_gate (decide (is_gap (gate gs p)))
    where
      at_gap : is_gap (gate gs p) ≡ true → Closing gs s u (p + 1) r
      at_gap e =
          let still = v.gone (operator_now ∙ eqb-true (gate gs p).operator 0 e) in
          record {
            len = ap length still.0 ∙ w.len;
            inside = omega arith;
            count = still.1 ∙ w.count ∙ sym (rank_next_gap gs p lt e);
            front = λ x k a b. ap (λ (l : List ℕ). get_or l (8 * x + k) 0) still.0 ∙ w.front x k (omega (arith, still.1)) b;
            rest = λ y l. ap (λ (x : List ℕ). get_or x y 0) still.0 ∙ w.rest y (omega arith);
          }

      byte : RecordMoved t u p q → is_gap (gate gs p) ≡ false → (x k : ℕ) → x < q + 1 → k < 8 → Dec (x ≡ q) → get_or u (8 * x + k) 0 ≡ get_or (record_of (gate (ungapped gs) x)) k 0
      byte m e x k a b (yes c) =
          rw (c, w.count, gate_ungapped gs p lt e)
          (rw w.count at (m.here k b) ∙ byte_now k b)
      byte m e x k a b (no ne) = m.below (8 * x + k) (omega arith) ∙ w.front x k (omega arith) b

      at_gate : is_gap (gate gs p) ≡ false → Closing gs s u (p + 1) r
      at_gate e =
          let moved = v.stays (λ z. eqb-false (gate gs p).operator 0 e (sym operator_now ∙ z)) in
          record {
            len = moved.0.len ∙ w.len;
            inside = omega arith;
            count = moved.1 ∙ ap (λ (x : ℕ). x + 1) w.count ∙ sym (rank_next gs p lt e);
            front = λ x k a b. byte moved.0 e x k (omega (arith, moved.1)) b (ℕ_discrete x q);
            rest = λ y l. moved.0.above y (omega (arith, closing_order)) ∙ w.rest y (omega arith);
          }

pub closing_end : (gs : List Gate) (s t : List ℕ) (p q : ℕ) → BufferHolds s gs → length gs ≤ p → Closing gs s t p q → BufferHolds t (ungapped gs) × (q ≡ length (ungapped gs))
closing_end gs s t p q h le w =
    let count : q ≡ length (ungapped gs) = w.count ∙ rank_all gs p le in (
      record {
        room = omega (arith, w.len, h.room, rank_place gs p, w.inside, w.count);
        gates = ungapped_each GateOrGap gs h.gates;
        bytes = λ x k a b. w.front x k (omega arith) b;
      },
      count,
    )

-- ---- at the end

record_of_lem : (gs : List Gate) (q k : ℕ) → q < length gs → k < 8 → get_or (bytes_of gs) (8 * q + k) 0 ≡ get_or (record_of (gate gs q)) k 0
unfolding bytes_of
record_of_lem [] q k lq lk = absurd (omega arith)
record_of_lem (g ∷ gs) zero k lq lk = ap (λ (x : ℕ). get_or (record_of g ++ bytes_of gs) x 0) (omega arith) ∙ get_or-append (record_of g) (bytes_of gs) 0 k (rw (length_record g) lk)
record_of_lem (g ∷ gs) (suc q) k lq lk =
    let e : 8 * suc q + k ≡ length (record_of g) + (8 * q + k) = rw (length_record g) (omega arith) in
    ap (λ (x : ℕ). get_or (record_of g ++ bytes_of gs) x 0) e ∙ get_or-append-add (record_of g) (bytes_of gs) (8 * q + k) 0 ∙ record_of_lem gs q k (omega arith) lk

-- the bytes of the buffer are the records of the gates that it holds
pub holds_bytes : (b : List ℕ) (gs : List Gate) → BufferHolds b gs → take (8 * length gs) b ≡ bytes_of gs
holds_bytes b gs w =
    ext_get_or 0 (take (8 * length gs) b) (bytes_of gs) (long ∙ sym (length_bytes gs))
    (λ x lt.
    let l : x < 8 * length gs = rw long at lt in
    get_or-take (8 * length gs) b x 0 l
    ∙ ap (λ (y : ℕ). get_or b y 0) (place x)
    ∙ w.bytes (x / 8) (x % 8) (omega arith) (omega arith)
    ∙ sym (ap (λ (y : ℕ). get_or (bytes_of gs) y 0) (place x) ∙ record_of_lem gs (x / 8) (x % 8) (omega arith) (omega arith)))
  where
    long : length (take (8 * length gs) b) ≡ 8 * length gs
    long = length-take-le (8 * length gs) b w.room

    place : (x : ℕ) → x ≡ 8 * (x / 8) + x % 8
    place x = omega arith
