-- The records of a cascade read back: they are whole records, each a gate on n lines (`bytes_whole`), and their gates are the cascade (`bytes_gates`);
-- and the records of the gates that were read are the bytes (`bytes_again`).
-- It rests on a record's being decided by its 8 bytes alone. Assumes nothing.
use Rattle.std.proofs.Common.{◌≡◌, refl, sym, ap, ◌∙◌, true, List, [], ◌∷◌, ◌++◌, append-nil, ℕ, zero, suc, ◌+◌, ◌*◌, ◌≤◌, ◌<◌, add-zero, add_assoc, arith, length, get_or, drop, length-append, drop_of_length-le, get_or-append-add, le-leb}
use Rattle.std.proofs.lemmas.List.Edits.{sets}
use Rattle.ranges.specs.Ranges.{span}
use Rattle.ranges.specs.Lists.{Each}
use Rattle.ranges.proofs.Tests.{every_ext}
use Rattle.ranges.proofs.Spans.{length_span}
use Rattle.ranges.proofs.Stores.{sets_append}
use Rattle.card.specs.Card.{lines_ok, laid}
use Rattle.card.proofs.Cards.{sets_laid}
use Rattle.gates.specs.declared.Gate.{Gate}
use Rattle.gates.specs.Gates.{IsGate}
use Rattle.gates.specs.Records.{line_ok, lines_ok_at, is_record, record_of}
use Rattle.gates.proofs.Records.{length_record, record_written, encode_decode}
use Rattle.cascades.specs.Cascades.{gate_in, records, gates_of, bytes_of, Cascade}
use Rattle.cascades.specs.Inner.Checked.{Whole}
use Rattle.cascades.proofs.Stored.{length_bytes, laid_gates}

-- equal bytes are the same record
pub record_ext : (n : ℕ) (b b' : List ℕ) (at at' : ℕ) → at + 8 ≤ length b → at' + 8 ≤ length b'
    → ((k : ℕ) → k < 8 → get_or b (at + k) 0 ≡ get_or b' (at' + k) 0) → is_record n b at ≡ is_record n b' at'
unfolding is_record lines_ok_at
record_ext n b b' at at' fits fits' h =
    let o : get_or b at 0 ≡ get_or b' at' 0 = simp add-zero at (h 0 (omega arith)) in
    let t : get_or b (at + 1) 0 ≡ get_or b' (at' + 1) 0 = h 1 (omega arith) in
    let l : lines_ok_at n (get_or b' (at' + 1) 0) b at ≡ lines_ok_at n (get_or b' (at' + 1) 0) b' at' =
    every_ext (λ k. line_ok n (get_or b' (at' + 1) 0) k (get_or b (at + 2 + k) 0)) (λ k. line_ok n (get_or b' (at' + 1) 0) k (get_or b' (at' + 2 + k) 0)) 0 6
    (λ k le lt. rw (add_assoc at 2 k, add_assoc at' 2 k, h (2 + k) (omega arith))) in
    rw (le-leb (at + 8) (length b) fits, le-leb (at' + 8) (length b') fits', o, t, l)

-- the first record, and one further on
bytes_first : (n : ℕ) (g : Gate) (rest : List ℕ) → IsGate n g → is_record n (record_of g ++ rest) 0 ≡ true
unfolding record_of
bytes_first n g rest ok = record_written g (record_of g ++ rest) 0 (omega (arith, length-append (record_of g) rest, length_record g)) n ok

bytes_later : (n : ℕ) (g : Gate) (rest : List ℕ) (at : ℕ) → at + 8 ≤ length rest → is_record n (record_of g ++ rest) (8 + at) ≡ is_record n rest at
bytes_later n g rest at fits =
    record_ext n (record_of g ++ rest) rest (8 + at) at (omega (arith, length-append (record_of g) rest, length_record g)) fits
    (λ k lt. rw (add_assoc 8 at k) (rw (length_record g) at (get_or-append-add (record_of g) rest (at + k) 0)))

bytes_record : (n : ℕ) (gs : List Gate) (i : ℕ) → Each (IsGate n) gs → i < length gs → is_record n (bytes_of gs) (8 * i) ≡ true
unfolding bytes_of
bytes_record n [] i each lt = absurd (omega arith)
bytes_record n (g ∷ gs) zero each lt = bytes_first n g (bytes_of gs) each.0
bytes_record n (g ∷ gs) (suc i) each lt =
    let e : 8 * suc i ≡ 8 + 8 * i = omega arith in
    rw e (bytes_later n g (bytes_of gs) (8 * i) (omega (arith, length_bytes gs)) ∙ bytes_record n gs i each.1 (omega arith))

pub bytes_whole : (n : ℕ) (gs : List Gate) → lines_ok n ≡ true → Cascade n gs → Whole n (bytes_of gs) (length gs)
bytes_whole n gs six c = record { lines = six; size = length_bytes gs; most = c.most; each = λ i lt. bytes_record n gs i c.gates lt }

pub bytes_gates : (n : ℕ) (gs : List Gate) → Each (IsGate n) gs → gates_of (bytes_of gs) ≡ gs
unfolding gates_of laid
bytes_gates n gs each =
    let all : drop (length (bytes_of gs)) (bytes_of gs) ≡ [] = drop_of_length-le (bytes_of gs) {i = length (bytes_of gs)} (omega arith) in
    let count : records (bytes_of gs) ≡ length gs = omega (arith, length_bytes gs) in
    let read : span (gate_in (laid (bytes_of gs) (bytes_of gs))) 0 (length gs) ≡ gs = laid_gates n gs (bytes_of gs) each (omega (arith, length_bytes gs)) in
    rw count (rw (all, append-nil) at read)

-- stored where they were read, the records from the i-th on change nothing
stored_again : (n : ℕ) (b : List ℕ) (m : ℕ) → Whole n b m → (k i : ℕ) → i + k ≡ m → sets b (8 * i) (bytes_of (span (gate_in b) i k)) ≡ b
unfolding bytes_of span
stored_again n b m w zero i e = refl
stored_again n b m w (suc k) i e =
    let next : 8 * i + 8 ≡ 8 * (i + 1) = omega arith in
    sets_append (record_of (gate_in b i)) (bytes_of (span (gate_in b) (i + 1) k)) b (8 * i)
    ∙ rw (encode_decode n b (8 * i) (w.each i (omega arith)), length_record, next) (stored_again n b m w k (i + 1) (omega arith))

pub bytes_again : (n : ℕ) (b : List ℕ) (m : ℕ) → Whole n b m → bytes_of (gates_of b) ≡ b
unfolding gates_of laid
bytes_again n b m w =
    let count : records b ≡ m = omega (arith, w.size) in
    let long : length (bytes_of (span (gate_in b) 0 (records b))) ≡ length b = length_bytes (span (gate_in b) 0 (records b)) ∙ rw (length_span, count) (sym w.size) in
    let rest : drop (length (bytes_of (span (gate_in b) 0 (records b)))) b ≡ [] = drop_of_length-le b {i = length (bytes_of (span (gate_in b) 0 (records b)))} (omega (arith, long)) in
    sym (append-nil (bytes_of (span (gate_in b) 0 (records b))))
    ∙ ap (λ (x : List ℕ). bytes_of (span (gate_in b) 0 (records b)) ++ x) (sym rest)
    ∙ sym (sets_laid (bytes_of (span (gate_in b) 0 (records b))) b (omega (arith, long)))
    ∙ stored_again n b m w (records b) 0 (omega (arith, count))
