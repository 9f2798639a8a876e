-- `texts::storing::Writer::write_decimal` meets its contract: storing the bytes that are left is storing all. Assumes nothing.
use Rattle.std.proofs.Common.{◌≡◌, refl, ◌∙◌, List, append-nil, ℕ, ◌+◌, ◌-◌, ◌%◌, ◌/◌, ◌≤◌, ◌<◌, length, set, take, drop, length-set, length-drop, drop_of_length-le, length-take-le, arith}
use Rattle.std.proofs.lemmas.List.Edits.{sets, sets-eq}
use Rattle.ranges.specs.Ranges.{span}
use Rattle.ranges.proofs.Spans.{length_span, span_none}
use Rattle.digits.proofs.Digits.{shift_next}
use Rattle.texts.specs.Texts.{width, decimal}
use Rattle.texts.proofs.Decimals.{byte_of, length_decimal, byte_stored}
use Rattle.texts.proofs.Writes.{stored_part}
use Rattle.texts.proofs.storing.Writer.write_decimal.Goals as goal
use Rattle.texts.proofs.storing.Writer.write_decimal.Invariants.{Going}

-- one turn
module _ (x : ℕ) (digits₀ : List ℕ) (w : ℕ) (digits : List ℕ) (rest i : ℕ) (g : Going x digits₀ w digits rest i) where
  turn : 0 < i → Going x digits₀ w (set digits (i - 1) (0x30 + rest % 10)) (rest / 10) (i - 1)
  turn pos =
      let up : i - 1 + 1 ≡ i = omega arith in
      let e : w - i + 1 ≡ w - (i - 1) = omega (arith, g.within) in
      record {
        within = omega (arith, g.within);
        long = simp length-set g.long;
        taken = rw (← e) (shift_next 10 (w - i) x rest g.taken);
        left = byte_stored x w digits rest (i - 1) (rw up g.taken) ∙ rw up g.left;
      }

  -- at the end all are stored
  all : i ≡ 0 → w ≡ width x → length digits₀ ≡ w → digits ≡ decimal x
  unfolding decimal
  all z e long =
      let stored : digits ≡ sets digits₀ 0 (span (byte_of x w) 0 w) = rw (z, span_none) at g.left in
      let size : length (span (byte_of x w) 0 w) ≡ w = length_span (byte_of x w) 0 w in
      stored ∙ sets-eq (span (byte_of x w) 0 w) digits₀ 0 (omega (arith, size, long)) ∙ rw (drop_of_length-le digits₀ {i = 0 + length (span (byte_of x w) 0 w)} (omega (arith, size, long)), append-nil, e)

-- the part of the room is as long as the text
part_long : (room : List ℕ) (at k : ℕ) → at + k ≤ length room → length (take (at + k - at) (drop at room)) ≡ k
part_long room at k fits = length-take-le (at + k - at) (drop at room) (omega (arith, length-drop at room)) ∙ omega arith

pub overflow_add-end : goal.overflow_add-end
overflow_add-end c = omega (arith, c.size_decimal.ensures.digits, length_decimal c.args.x)

pub slice_bounds-digits-end : goal.slice_bounds-digits-end
slice_bounds-digits-end c = omega (arith, c.requires, c.size_decimal.ensures.digits, length_decimal c.args.x)

pub loop-i-preserved : goal.loop-i-preserved
loop-i-preserved c = turn _ _ _ _ _ _ c.loop-i.invariant c.loop-i-test.true

pub returns : goal.returns
returns c =
    let out = c.args.self.now in
    let e = c.size_decimal.ensures.digits in
    let part = part_long out.room.now out.at c.size_decimal.result (omega (arith, c.requires, e, length_decimal c.args.x)) in
    let digits = all _ _ _ _ _ _ c.loop-i.invariant (omega arith) (part ∙ e) refl in
    record {
      same = refl;
      stored = record { bytes = rw digits (stored_part out.room.now out.at _ (decimal c.args.x) (omega (arith, e, length_decimal c.args.x)) c.requires); behind = rw (e, length_decimal) };
    }
