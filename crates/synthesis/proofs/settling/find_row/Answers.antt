-- `synthesis::settling::find_row` meets its contract: each turn adds the gate of the next line that differs, and where none is left the row is done.
-- Assumes nothing.
use Rattle.std.proofs.Common.{◌≡◌, ℕ, ◌^◌, ◌<◌, refl, ap, ◌∙◌, arith}
use Rattle.digits.specs.Digits.{digit}
use Rattle.digits.proofs.Digits.{digit_lt, put_lt}
use Rattle.digits.proofs.Sizes.{three_pos, patterns_most}
use Rattle.gates.specs.Records.{record_of}
use Rattle.synthesis.proofs.Controls.{full_lt, full_line}
use Rattle.synthesis.proofs.SettlingRows.{settling_start, settling_end, settling_turn, entry_below, line, digit_came, some_room}
use Rattle.synthesis.proofs.settling.find_row.Goals as goal
use Rattle.synthesis.proofs.settling.find_row.Goals.{After-control_on}

-- k is the line of the next gate, a the present entry, d the digit of the row on that line
module _ (c : After-control_on) where
  abbrev n : ℕ
  n = c.args.names.now.lines

  abbrev k : ℕ
  k = c.find_line-k.result

  on : k < n
  on = line c.loop-left.invariant.0 c.find_line-k.ensures c.requires.row

  a_lt : c.loop-left.a < 3 ^ n
  a_lt = entry_below c.loop-left.invariant.0 c.requires.row

  d_is : c.control_on-d.result ≡ digit 3 k c.args.i
  d_is = c.control_on-d.ensures ∙ ap (digit 4 k) c.name-to.ensures ∙ full_line n c.args.i c.requires.present.lines k on

  d_lt : c.control_on-d.result < 3
  d_lt = rw d_is (digit_lt 3 _ _ three_pos)

pub loop-left-init : goal.loop-left-init
loop-left-init c = (settling_start _ _ _ _ _ _ _ _ c.requires.present c.entry-a.ensures c.name-from.ensures c.name-to.ensures, refl, refl, refl)

pub with_digit-b-requires : goal.with_digit-b-requires
with_digit-b-requires c = (
  omega (arith, c.find_line-k.ensures.line),
  c.control_on.ensures ∙ digit_came c.loop-left.invariant.0 c.find_line-k.ensures c.requires.row,
  omega (arith, a_lt c, patterns_most (n c) c.requires.present.lines),
  d_lt c,
)

pub gate_for-requires : goal.gate_for-requires
gate_for-requires c =
    let w = (goal.at.gate_for-requires c).After-control_on in
    let a = c.loop-left.a in
    record {
      line = c.find_line-k.ensures.line;
      packed = omega (arith, c.name.ensures, full_lt (n w) a);
      from_digit = omega (arith, ap (digit 4 (k w)) c.name.ensures, full_line (n w) a c.requires.present.lines (k w) (on w), digit_lt 3 (k w) a three_pos);
      to_digit = d_lt w;
    }

pub lay-requires : goal.lay-requires
lay-requires c = some_room c.loop-left.invariant.0 c.find_line-k.ensures c.requires.row c.requires.room

pub exchange-requires : goal.exchange-requires
exchange-requires c =
    let w = (goal.at.exchange-requires c).After-control_on in
    let size = c.loop-left.invariant.0.at.present.size in
    let b_lt = put_lt 3 (n w) (k w) c.loop-left.a c.control_on-d.result (a_lt w) (on w) (d_lt w) in
    (omega (arith, size, a_lt w), omega (arith, size, c.with_digit-b.ensures, b_lt))

pub loop-left-preserved : goal.loop-left-preserved
loop-left-preserved c =
    let w = (goal.at.loop-left-preserved c).After-control_on in
    let g = c.loop-left.invariant in
    let e = c.exchange.ensures in
    let l = c.lay.ensures in (
      settling_turn g.0 c.find_line-k.ensures c.requires.row _ _ _ _ _ _ _ (d_is w) c.with_digit-b.ensures e.table_after
          (c.word_of.ensures ∙ ap record_of (c.gate_for.ensures (n w) c.loop-left.a c.requires.present.lines (on w) c.name.ensures)) l.place.0 l.place.1 l.laid refl,
      e.same_references.0 ∙ g.1,
      e.same_references.1 ∙ g.2,
      l.same_reference ∙ g.3,
    )

pub returns : goal.returns
returns c =
    let g = c.loop-left.invariant in
    record { same_table = (g.1, g.2); same_words = g.3; settled = settling_end g.0 c.loop-left-test.false }
