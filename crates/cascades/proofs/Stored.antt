-- Gates as bytes: how long their records are, one turn of a loop that writes them, and that what was written is read back. Assumes nothing.
use Rattle.std.proofs.Common.{◌≡◌, refl, sym, ap, ap₂, ◌∙◌, List, [], ◌∷◌, ◌++◌, ℕ, ◌+◌, ◌-◌, ◌*◌, ◌/◌, ◌≤◌, ◌<◌, zero-add, add-zero, arith, true, length, get_or, drop, length-append}
use Rattle.std.proofs.lemmas.List.Edits.{sets}
use Rattle.std.proofs.Math.Seq.{length-sets}
use Rattle.ranges.specs.Ranges.{span}
use Rattle.ranges.specs.Lists.{Each}
use Rattle.ranges.proofs.Spans.{span_more, span_ends, map_span, reverse_span}
use Rattle.ranges.proofs.Stores.{sets_append, get_d_sets_below}
use Rattle.card.specs.Card.{laid}
use Rattle.card.proofs.Cards.{sets_laid}
use Rattle.gates.specs.declared.Gate.{Gate}
use Rattle.gates.specs.Gates.{inverse_op, inverse, IsGate}
use Rattle.gates.specs.Records.{is_record, gate_at, record_of}
use Rattle.gates.specs.Inner.Words.{byte, Word, bytes_in}
use Rattle.gates.proofs.Operators.{inverse_is_op}
use Rattle.gates.proofs.Bytes.{low_replaced}
use Rattle.gates.proofs.Records.{reads, length_record, record_again, gate_written, gate_ext}
use Rattle.cascades.specs.Cascades.{gate_in, records, gates_of, bytes_of, undoing}

-- the record of a gate's inverse is its own but for the operator
pub record_inverse : (n : ℕ) (b : List ℕ) (at : ℕ) → is_record n b at ≡ true
    → record_of (inverse (gate_at b at))
    ≡ inverse_op (get_or b at 0) ∷ get_or b (at + 1) 0 ∷ get_or b (at + 2) 0 ∷ get_or b (at + 3) 0 ∷ get_or b (at + 4) 0 ∷ get_or b (at + 5) 0 ∷ get_or b (at + 6) 0 ∷ get_or b (at + 7) 0 ∷ []
unfolding record_of inverse gate_at
record_inverse n b at e = ap (λ (l : List ℕ). inverse_op (get_or b at 0) ∷ drop 1 l) (record_again n b at e)

-- as one number: another lowest byte
pub word_inverse : (n : ℕ) (b : List ℕ) (at w : ℕ) → is_record n b at ≡ true → Word b at w → bytes_in (inverse_op (byte 0 w) + 256 * (w / 256)) ≡ record_of (inverse (gate_at b at))
word_inverse n b at w is read =
    let r = reads n b at is in
    let o : byte 0 w ≡ get_or b at 0 = rw add-zero at (read.bytes 0 (omega arith)) in
    let few : inverse_op (byte 0 w) < 256 = rw o (omega (arith, (inverse_is_op (get_or b at 0) r.op_low r.op_high).1)) in
    low_replaced (inverse_op (byte 0 w)) w few
    ∙ rw (o, read.bytes 1 (omega arith), read.bytes 2 (omega arith), read.bytes 3 (omega arith), read.bytes 4 (omega arith), read.bytes 5 (omega arith), read.bytes 6 (omega arith), read.bytes 7 (omega arith))
    (sym (record_inverse n b at is))

pub length_bytes : (gs : List Gate) → length (bytes_of gs) ≡ 8 * length gs
unfolding bytes_of
length_bytes [] = refl
length_bytes (g ∷ gs) = length-append (record_of g) (bytes_of gs) ∙ rw (length_record g, length_bytes gs) (omega arith)

-- one turn of a loop that writes the records of f 0, f 1, .. from the start of a room on, and its end
pub stored_more : (f : ℕ → Gate) (room : List ℕ) (m i : ℕ) → i < m
    → sets (sets room (8 * i) (record_of (f i))) (8 * (i + 1)) (bytes_of (span f (i + 1) (m - (i + 1)))) ≡ sets room (8 * i) (bytes_of (span f i (m - i)))
unfolding bytes_of
stored_more f room m i lt =
    let e : 8 * (i + 1) ≡ 8 * i + length (record_of (f i)) = rw (length_record (f i)) (omega arith) in
    rw (span_more f m i lt, e) (sym (sets_append (record_of (f i)) (bytes_of (span f (i + 1) (m - (i + 1)))) room (8 * i)))

pub stored_ends : (f : ℕ → Gate) (room : List ℕ) (m i j : ℕ) → m ≤ i → sets room j (bytes_of (span f i (m - i))) ≡ room
unfolding bytes_of
stored_ends f room m i j le = rw (span_ends f m i le)

-- the gates that undo a cascade of m records, by their place
pub undoing_span : (b : List ℕ) (m : ℕ) → records b ≡ m → undoing (gates_of b) ≡ span (λ i. inverse (gate_in b (m - (i + 1)))) 0 m
unfolding undoing gates_of
undoing_span b m e = rw (e, map_span inverse (gate_in b) 0 m) (reverse_span (λ i. inverse (gate_in b i)) m)

-- the gates whose records were written from record i on are read back there
pub read_back : (n : ℕ) (gs : List Gate) (out : List ℕ) (i : ℕ) → Each (IsGate n) gs → 8 * (i + length gs) ≤ length out
    → span (gate_in (sets out (8 * i) (bytes_of gs))) i (length gs) ≡ gs
unfolding span bytes_of
read_back n [] out i each fits = refl
read_back n (g ∷ gs) out i each fits =
    let w : List ℕ = sets out (8 * i) (record_of g) in
    let e : 8 * i + length (record_of g) ≡ 8 * (i + 1) = rw (length_record g) (omega arith) in
    let head : gate_in (sets (sets out (8 * i) (record_of g)) (8 * (i + 1)) (bytes_of gs)) i ≡ g =
    gate_ext (sets (sets out (8 * i) (record_of g)) (8 * (i + 1)) (bytes_of gs)) (sets out (8 * i) (record_of g)) (8 * i) (8 * i)
    (λ k lt. get_d_sets_below (bytes_of gs) (sets out (8 * i) (record_of g)) (8 * (i + 1)) (8 * i + k) 0 (omega arith))
    ∙ gate_written g out (8 * i) (omega arith) each.0.packed in
    let tail : span (gate_in (sets (sets out (8 * i) (record_of g)) (8 * (i + 1)) (bytes_of gs))) (i + 1) (length gs) ≡ gs =
    read_back n gs (sets out (8 * i) (record_of g)) (i + 1) each.1 (rw (length-sets out (8 * i) (record_of g)) (omega arith)) in
    let laid : sets out (8 * i) (record_of g ++ bytes_of gs) ≡ sets (sets out (8 * i) (record_of g)) (8 * (i + 1)) (bytes_of gs) =
    sets_append (record_of g) (bytes_of gs) out (8 * i) ∙ ap (λ (k : ℕ). sets (sets out (8 * i) (record_of g)) k (bytes_of gs)) e in
    ap (λ (o : List ℕ). span (gate_in o) i (length (g ∷ gs))) laid ∙ ap₂ (λ (x : Gate) (l : List Gate). x ∷ l) head tail

-- so a room that was laid out with a cascade's records holds that cascade
pub laid_gates : (n : ℕ) (gs : List Gate) (room : List ℕ) → Each (IsGate n) gs → 8 * length gs ≤ length room → span (gate_in (laid (bytes_of gs) room)) 0 (length gs) ≡ gs
laid_gates n gs room each fits =
    rw (← sets_laid (bytes_of gs) room (rw (length_bytes gs) fits)) (read_back n gs room 0 each (rw (zero-add (length gs)) fits))
