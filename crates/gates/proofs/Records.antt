-- A gate and its record. `decode_encode` and `encode_decode` are the two round trips: a gate's record reads as that gate, and the bytes that read as a
-- gate are its record, so each gate has one. Assumes nothing.
use mathlib.Core.Path.{◌≡◌, refl, ap, ◌∙◌, subst}
use mathlib.Core.Bool.{Bool, true, false, cond, ◌&&◌, ◌||◌, or-true}
use mathlib.Core.List.{List, [], ◌∷◌}
use mathlib.Core.Logic.{◌⊎◌}
use Prim.Native.Nat.{ℕ, zero, suc, ◌+◌, ◌^◌, ◌≤◌, ◌<◌}
use native.Mathlib.Nat.{add-zero, add_assoc}
use native.Mathlib.Decide.{ℕ_discrete}
use native.Mathlib.Omega.{arith}
use lib.Dec.{eqb, leb, ltb}
use lib.ListN.{length, get_or, set}
use lib.Seq.{sets, length-sets, set-get_or}
use borrow.Author.Tests.{leb-true, ltb-true, eqb-true, leb-false, le-leb, lt-leb, lt-ltb, eq-eqb, ne_eqb}
use Rattle.ranges.proofs.Bools.{and_left, and_right, decide}
use Rattle.ranges.proofs.Tests.{every_below, every_of}
use Rattle.ranges.proofs.Stores.{get_d_sets}
use Rattle.digits.specs.Digits.{digit}
use Rattle.digits.proofs.Digits.{digit_lt}
use Rattle.digits.proofs.Packs.{pack_lt, pack_ext, pack_digits, digit_pack}
use Rattle.std.specs.Prelude.{Ok, Err}
use Rattle.card.specs.declared.Refusal.{Refusal}
use Rattle.card.specs.Card.{lines_ok}
use Rattle.card.proofs.Cards.{lines_are}
use Rattle.gates.specs.declared.Gate.{Gate}
use Rattle.gates.specs.Gates.{control, IsGate}
use Rattle.gates.specs.Records.{line_ok, lines_ok_at, packed_at, is_record, gate_at, record_of}
use Rattle.gates.specs.Inner.Decoding.{decoded}

-- ---- one control byte

module _ (n t k c : ℕ) where
  -- on the target, and from line n up, there is none
  pub line_none : line_ok n t k c ≡ true → (eqb k t || leb n k) ≡ true → c ≡ 3
  unfolding line_ok
  line_none ok e = eqb-true c 3 (rw e at ok)

  pub line_lt : line_ok n t k c ≡ true → c < 4
  unfolding line_ok
  line_lt ok = go (eqb k t || leb n k) ok
    where
      go : (b : Bool) → cond b (eqb c 3) (leb c 3) ≡ true → c < 4
      go true e = omega (arith, eqb-true c 3 e)
      go false e = omega (arith, leb-true c 3 e)

  pub line_three : c ≡ 3 → line_ok n t k c ≡ true
  unfolding line_ok
  line_three e = go (eqb k t || leb n k)
    where
      go : (b : Bool) → cond b (eqb c 3) (leb c 3) ≡ true
      go true = eq-eqb c 3 e
      go false = le-leb c 3 (omega arith)

  pub line_free : (k ≡ t → ⊥) → k < n → c < 4 → line_ok n t k c ≡ true
  unfolding line_ok
  line_free ne lt small = rw (ne_eqb k t ne, lt-leb n k lt) (le-leb c 3 (omega arith))

-- ---- the bytes of a record

-- what it says of bytes that they are a record
pub record Reads (n : ℕ) (b : List ℕ) (at : ℕ) : Type 0 where
  pub fits : at + 8 ≤ length b
  pub op_low : 1 ≤ get_or b at 0
  pub op_high : get_or b at 0 ≤ 5
  pub on_line : get_or b (at + 1) 0 < n
  pub lines : lines_ok_at n (get_or b (at + 1) 0) b at ≡ true

pub reads : (n : ℕ) (b : List ℕ) (at : ℕ) → is_record n b at ≡ true → Reads n b at
unfolding is_record
reads n b at e =
    let A : Bool = leb (at + 8) (length b) in
    let o : Bool = leb 1 (get_or b at 0) && leb (get_or b at 0) 5 in
    let t : Bool = ltb (get_or b (at + 1) 0) n in
    let abc = and_left (A && o && t) (lines_ok_at n (get_or b (at + 1) 0) b at) e in
    let ab = and_left (A && o) t abc in
    let ops = and_right A o ab in
    record {
      fits = leb-true (at + 8) (length b) (and_left A o ab);
      op_low = leb-true 1 (get_or b at 0) (and_left (leb 1 (get_or b at 0)) _ ops);
      op_high = leb-true (get_or b at 0) 5 (and_right (leb 1 (get_or b at 0)) _ ops);
      on_line = ltb-true (get_or b (at + 1) 0) n (and_right (A && o) t abc);
      lines = and_right (A && o && t) _ e;
    }

-- bytes that are too short are none; and where the other tests hold the control bytes decide
pub record_short : (n : ℕ) (b : List ℕ) (at : ℕ) → leb (at + 8) (length b) ≡ false → is_record n b at ≡ false
unfolding is_record
record_short n b at short = rw short

pub record_lines : (n : ℕ) (b : List ℕ) (at : ℕ) → at + 8 ≤ length b → 1 ≤ get_or b at 0 → get_or b at 0 ≤ 5 → get_or b (at + 1) 0 < n
    → is_record n b at ≡ lines_ok_at n (get_or b (at + 1) 0) b at
unfolding is_record
record_lines n b at fits op_low op_high on =
    rw (le-leb (at + 8) (length b) fits, le-leb 1 (get_or b at 0) op_low, le-leb (get_or b at 0) 5 op_high, lt-ltb (get_or b (at + 1) 0) n on)

-- the control bytes of a record, one by one
module _ (n t : ℕ) (b : List ℕ) (at : ℕ) (ok : lines_ok_at n t b at ≡ true) where
  pub line_at : (k : ℕ) → k < 6 → line_ok n t k (get_or b (at + 2 + k) 0) ≡ true
  unfolding lines_ok_at
  line_at k lt = every_below (λ k. line_ok n t k (get_or b (at + 2 + k) 0)) 6 ok k lt

  pub byte_lt : (k : ℕ) → k < 6 → get_or b (at + 2 + k) 0 < 4
  byte_lt k lt = line_lt n t k (get_or b (at + 2 + k) 0) (line_at k lt)

  pub packed_lt : packed_at b at < 4 ^ 6
  unfolding packed_at
  packed_lt = pack_lt 4 (λ k. get_or b (at + 2 + k) 0) 6 byte_lt

  -- the control on line k of the gate that the bytes write down
  pub packed_digit : (k : ℕ) → k < 6 → digit 4 k (packed_at b at) ≡ get_or b (at + 2 + k) 0
  unfolding packed_at
  packed_digit k lt = digit_pack 4 (λ k. get_or b (at + 2 + k) 0) 6 byte_lt k lt

-- bytes that are a record write down a gate on n lines
pub gate_at_lem : (n : ℕ) (b : List ℕ) (at : ℕ) → n ≤ 6 → is_record n b at ≡ true → IsGate n (gate_at b at)
unfolding gate_at
gate_at_lem n b at six e =
    let r = reads n b at e in
    let t : ℕ = get_or b (at + 1) 0 in
    let none : (k : ℕ) → k < 6 → (eqb k (get_or b (at + 1) 0) || leb n k) ≡ true → digit 4 k (packed_at b at) ≡ 3 =
    λ k lt off. packed_digit n t b at r.lines k lt ∙ line_none n t k (get_or b (at + 2 + k) 0) (line_at n t b at r.lines k lt) off in
    record {
      op_low = r.op_low;
      op_high = r.op_high;
      on_line = r.on_line;
      own = none (get_or b (at + 1) 0) (omega (arith, r.on_line)) (rw (eq-eqb t t refl));
      beyond = λ k le lt. none k lt (rw (le-leb n k le) (or-true (eqb k t)));
      packed = packed_lt n t b at r.lines;
    }

-- ---- from bytes to a gate and back

-- the record of the gate that was read is the 8 bytes
pub record_again : (n : ℕ) (b : List ℕ) (at : ℕ) → is_record n b at ≡ true
    → record_of (gate_at b at)
    ≡ get_or b at 0 ∷ get_or b (at + 1) 0 ∷ get_or b (at + 2) 0 ∷ get_or b (at + 3) 0 ∷ get_or b (at + 4) 0 ∷ get_or b (at + 5) 0 ∷ get_or b (at + 6) 0 ∷ get_or b (at + 7) 0 ∷ []
unfolding record_of gate_at
record_again n b at e =
    let byte : (k j : ℕ) → k < 6 → at + 2 + k ≡ j → digit 4 k (packed_at b at) ≡ get_or b j 0 =
    λ k j lt q. packed_digit n (get_or b (at + 1) 0) b at (reads n b at e).lines k lt ∙ ap (λ (x : ℕ). get_or b x 0) q in
    rw (byte 0 (at + 2) (omega arith) (omega arith), byte 1 (at + 3) (omega arith) (omega arith), byte 2 (at + 4) (omega arith) (omega arith), byte 3 (at + 5) (omega arith) (omega arith), byte 4 (at + 6) (omega arith) (omega arith), byte 5 (at + 7) (omega arith) (omega arith))

-- stored where it was read, it changes nothing
pub encode_decode : (n : ℕ) (b : List ℕ) (at : ℕ) → is_record n b at ≡ true → sets b at (record_of (gate_at b at)) ≡ b
encode_decode n b at e =
    let s : (j k : ℕ) → k ≡ j → set b k (get_or b j 0) ≡ b = λ j k q. rw q (set-get_or b j 0) in
    rw (record_again n b at e, s at at refl, s (at + 1) (suc at) (omega arith), s (at + 2) (suc (suc at)) (omega arith), s (at + 3) (suc (suc (suc at))) (omega arith), s (at + 4) (suc (suc (suc (suc at)))) (omega arith), s (at + 5) (suc (suc (suc (suc (suc at))))) (omega arith), s (at + 6) (suc (suc (suc (suc (suc (suc at)))))) (omega arith), s (at + 7) (suc (suc (suc (suc (suc (suc (suc at))))))) (omega arith))

-- the bytes of a record alone decide what it reads as
pub gate_ext : (b b' : List ℕ) (at at' : ℕ) → ((k : ℕ) → k < 8 → get_or b (at + k) 0 ≡ get_or b' (at' + k) 0) → gate_at b at ≡ gate_at b' at'
unfolding gate_at packed_at
gate_ext b b' at at' h =
    let o : get_or b at 0 ≡ get_or b' at' 0 = simp add-zero at (h 0 (omega arith)) in
    let t : get_or b (at + 1) 0 ≡ get_or b' (at' + 1) 0 = h 1 (omega arith) in
    let c : packed_at b at ≡ packed_at b' at' =
    pack_ext 4 (λ k. get_or b (at + 2 + k) 0) (λ k. get_or b' (at' + 2 + k) 0) 6 (λ k lt. rw (add_assoc at 2 k, add_assoc at' 2 k) (h (2 + k) (omega arith))) in
    λ i. record { operator = o i; target = t i; controls = c i }

-- ---- from a gate to bytes and back

pub length_record : (g : Gate) → length (record_of g) ≡ 8
unfolding record_of
length_record g = refl

-- byte 2 + k of a gate's record is its control on line k
record_control : (g : Gate) (k : ℕ) → k < 6 → get_or (record_of g) (2 + k) 0 ≡ control g k
unfolding record_of
record_control g zero lt = refl
record_control g (suc zero) lt = refl
record_control g (suc (suc zero)) lt = refl
record_control g (suc (suc (suc zero))) lt = refl
record_control g (suc (suc (suc (suc zero)))) lt = refl
record_control g (suc (suc (suc (suc (suc zero))))) lt = refl
record_control g (suc (suc (suc (suc (suc (suc k)))))) lt = absurd (omega arith)

-- a gate's controls are right for a record
gate_line : (n : ℕ) (g : Gate) → IsGate n g → (k : ℕ) → k < 6 → line_ok n g.target k (control g k) ≡ true
gate_line n g ok k lt = go (ℕ_discrete k g.target) (decide (leb n k))
  where
    go : Dec (k ≡ g.target) → (leb n k ≡ true) ⊎ (leb n k ≡ false) → line_ok n g.target k (control g k) ≡ true
    go (yes q) d = line_three n g.target k (control g k) (rw q ok.own)
    go (no ne) (◌⊎◌.inl le) = line_three n g.target k (control g k) (ok.beyond k (leb-true n k le) lt)
    go (no ne) (◌⊎◌.inr gt) = line_free n g.target k (control g k) ne (leb-false n k gt) (digit_lt 4 k g.controls (omega arith))

module _ (g : Gate) (b : List ℕ) (at : ℕ) (fits : at + 8 ≤ length b) where
  placed : (k : ℕ) → k < 8 → get_or (sets b at (record_of g)) (at + k) 0 ≡ get_or (record_of g) k 0
  placed k lt = get_d_sets (record_of g) b at k 0 (rw (length_record g) fits) (rw (length_record g) lt)

  placed_op : get_or (sets b at (record_of g)) at 0 ≡ g.operator
  unfolding record_of
  placed_op = rw add-zero at (placed 0 (omega arith))

  placed_target : get_or (sets b at (record_of g)) (at + 1) 0 ≡ g.target
  unfolding record_of
  placed_target = placed 1 (omega arith)

  placed_control : (k : ℕ) → k < 6 → get_or (sets b at (record_of g)) (at + 2 + k) 0 ≡ control g k
  placed_control k lt = rw (add_assoc at 2 k) (placed (2 + k) (omega arith) ∙ record_control g k lt)

  -- the record that was stored writes down the gate
  pub gate_written : g.controls < 4 ^ 6 → gate_at (sets b at (record_of g)) at ≡ g
  unfolding gate_at packed_at
  gate_written small =
      let c : packed_at (sets b at (record_of g)) at ≡ g.controls =
      pack_ext 4 (λ k. get_or (sets b at (record_of g)) (at + 2 + k) 0) (control g) 6 placed_control ∙ pack_digits 4 6 g.controls (omega arith) small in
      λ i. record { operator = placed_op i; target = placed_target i; controls = c i }

  pub record_written : (n : ℕ) → IsGate n g → is_record n (sets b at (record_of g)) at ≡ true
  unfolding lines_ok_at
  record_written n ok =
      let s : List ℕ = sets b at (record_of g) in
      record_lines n (sets b at (record_of g)) at (rw (length-sets b at (record_of g)) fits) (rw placed_op ok.op_low) (rw placed_op ok.op_high) (rw placed_target ok.on_line)
      ∙ every_of (λ k. line_ok n (get_or (sets b at (record_of g)) (at + 1) 0) k (get_or (sets b at (record_of g)) (at + 2 + k) 0)) 6
      (λ k lt. rw (placed_target, placed_control k lt) (gate_line n g ok k lt))

  pub decode_encode : (n : ℕ) → lines_ok n ≡ true → IsGate n g → decoded n (sets b at (record_of g)) at ≡ Ok g
  unfolding decoded
  decode_encode n six ok = rw (six, record_written n ok) (ap Ok (gate_written ok.packed))

-- ---- a gate's own record

itself : (g : Gate) → sets (record_of g) 0 (record_of g) ≡ record_of g
unfolding record_of
itself g = refl

own_fits : (g : Gate) → 0 + 8 ≤ length (record_of g)
own_fits g = omega (arith, length_record g)

pub gate_itself : (g : Gate) → g.controls < 4 ^ 6 → gate_at (record_of g) 0 ≡ g
gate_itself g small = subst (λ (b : List ℕ). gate_at b 0 ≡ g) (itself g) (gate_written g (record_of g) 0 (own_fits g) small)

-- it is one on n lines exactly if the gate is
pub gate_record : (n : ℕ) (g : Gate) → IsGate n g → is_record n (record_of g) 0 ≡ true
gate_record n g ok = subst (λ (b : List ℕ). is_record n b 0 ≡ true) (itself g) (record_written g (record_of g) 0 (own_fits g) n ok)

pub record_gate : (n : ℕ) (g : Gate) → n ≤ 6 → g.controls < 4 ^ 6 → is_record n (record_of g) 0 ≡ true → IsGate n g
record_gate n g six small is = subst (λ (x : Gate). IsGate n x) (gate_itself g small) (gate_at_lem n (record_of g) 0 six is)

-- ---- the answer of decoding

module _ (n : ℕ) (b : List ℕ) (at : ℕ) where
  pub decoded_lines : lines_ok n ≡ false → decoded n b at ≡ Err Refusal.Lines
  unfolding decoded
  decoded_lines e = rw e

  pub decoded_not : lines_ok n ≡ true → is_record n b at ≡ false → decoded n b at ≡ Err (Refusal.NoGate at)
  unfolding decoded
  decoded_not e f = rw (e, f)

  pub decoded_is : lines_ok n ≡ true → is_record n b at ≡ true → decoded n b at ≡ Ok (gate_at b at)
  unfolding decoded
  decoded_is e f = rw (e, f)

  -- what an answer says of the bytes
  pub record Gives (g : Gate) : Type 0 where
    pub lines : lines_ok n ≡ true
    pub is : is_record n b at ≡ true
    pub value : gate_at b at ≡ g

  pub gives : (g : Gate) → decoded n b at ≡ Ok g → Gives g
  unfolding decoded
  gives g = go (lines_ok n) (is_record n b at) refl refl
    where
      go : (x y : Bool) → lines_ok n ≡ x → is_record n b at ≡ y → cond x (cond y (Ok (gate_at b at)) (Err (Refusal.NoGate at))) (Err Refusal.Lines) ≡ Ok g → Gives g
      go true true p q e = record { lines = p; is = q; value = cc }
      go true false p q e = absurd cc
      go false y p q e = absurd cc

  pub gives_gate : (g : Gate) → Gives g → IsGate n g
  gives_gate g d = subst (λ (x : Gate). IsGate n x) d.value (gate_at_lem n b at (lines_are n d.lines).1 d.is)

  pub gives_no : (r : Refusal) → lines_ok n ≡ true → decoded n b at ≡ Err r → is_record n b at ≡ false
  unfolding decoded
  gives_no r six = go (is_record n b at) refl
    where
      go : (y : Bool) → is_record n b at ≡ y → cond (lines_ok n) (cond y (Ok (gate_at b at)) (Err (Refusal.NoGate at))) (Err Refusal.Lines) ≡ Err r
          → is_record n b at ≡ false
      go true p e = let e' = rw six at e in absurd cc
      go false p e = p
