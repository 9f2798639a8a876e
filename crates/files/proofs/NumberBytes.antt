-- Numbers in bytes, low byte first: written and read back, read and written back. They rest on the laws of `digit` and `pack` in radix 256.
-- Assumes nothing.
use Rattle.std.proofs.Common.{◌≡◌, refl, sym, ap, ◌∙◌, List, ◌++◌, ℕ, zero, suc, ◌+◌, ◌-◌, ◌^◌, ◌≤◌, ◌<◌, zero-add, add-zero, add-suc, mul-one, zero-mul, add-one, arith, length, get_or, take, drop, replicate, length-drop, length-take-le, get_or-take, get_or-drop, ext_get_or, slice_range, inl, inr}
use Rattle.std.proofs.Math.Nat.{pow-zero}
use Rattle.std.proofs.Math.ListN.{get_or-append, get_or-eq_default}
use Rattle.std.specs.Int.{w32, from_le_bytes, byte_at, byte_worth, bytes_low_first, sum_through}
use Rattle.ranges.specs.Ranges.{span}
use Rattle.digits.proofs.Digits.{digit_zero}
use Rattle.std.proofs.lemmas.Bool.{cases_lt}
use Rattle.std.proofs.lemmas.List.{get_or-append_right, get_or-replicate}
use Rattle.std.proofs.lemmas.List.Edits.{length-between, get_or-between}
use Rattle.ranges.proofs.Spans.{length_span, span_at}
use Rattle.digits.specs.Digits.{digit, pack}
use Rattle.digits.proofs.Packs.{pack_zero, pack_suc, pack_ext, pack_lt, pack_digits, digit_pack}
use Rattle.files.specs.RoundTrips.{Bytes}
use Rattle.files.specs.Files.{little_endian, number_at}

pub length_little : (k x : ℕ) → length (little_endian k x) ≡ k
unfolding little_endian
length_little k x = length_span (λ i. digit 256 i x) 0 k

pub little_at : (k x i : ℕ) → i < k → get_or (little_endian k x) i 0 ≡ digit 256 i x
unfolding little_endian
little_at k x i lt = rw (zero-add i) at (span_at (λ j. digit 256 j x) 0 k i 0 lt)

-- k bytes that are those of x write down x
pub number_is : (k x : ℕ) (f : List ℕ) (at : ℕ) → x < 256 ^ k → ((i : ℕ) → i < k → get_or f (at + i) 0 ≡ digit 256 i x) → number_at k f at ≡ x
unfolding number_at
number_is k x f at lt h = pack_ext 256 (λ i. get_or f (at + i) 0) (λ i. digit 256 i x) k h ∙ pack_digits 256 k x (omega arith) lt

-- the bytes of the number that k bytes write down are these
pub bytes_again : (k : ℕ) (f : List ℕ) (at : ℕ) → Bytes f → at + k ≤ length f → little_endian k (number_at k f at) ≡ take k (drop at f)
bytes_again k f at bytes fits =
    let long : length (take k (drop at f)) ≡ k = length-take-le k (drop at f) (rw (length-drop at f) (omega arith)) in
    ext_get_or 0 (little_endian k (number_at k f at)) (take k (drop at f)) (length_little k _ ∙ sym long)
    (λ i lt.
    let lt' : i < k = rw (length_little k (number_at k f at)) at lt in
    little_at k (number_at k f at) i lt' ∙ digits i lt' ∙ sym (get_or-take k (drop at f) i 0 lt' ∙ get_or-drop at f i 0))
  where
    digits : (i : ℕ) → i < k → digit 256 i (number_at k f at) ≡ get_or f (at + i) 0
    digits i lt = unfold number_at in digit_pack 256 (λ j. get_or f (at + j) 0) k (λ j l. bytes (at + j)) i lt

-- ---- what std's methods give

byte_is : (i x : ℕ) → byte_at i x ≡ digit 256 i x
unfolding digit
byte_is zero x = sym (digit_zero 256 x)
byte_is (suc i) x = refl

bytes_are : (i k x : ℕ) → bytes_low_first i k x ≡ span (λ j. digit 256 j x) i k
unfolding span
bytes_are i zero x = refl
bytes_are i (suc k) x = rw (byte_is, add-one, bytes_are (suc i) k x)

-- so many bytes of x, as to_le_bytes gives them
pub low_bytes : (k x : ℕ) → bytes_low_first 0 k x ≡ little_endian k x
unfolding little_endian
low_bytes k x = bytes_are 0 k x

-- the number that k + 1 bytes write down, as from_le_bytes reads it
low_number : (k : ℕ) (f : ℕ → ℕ) → sum_through (λ i. byte_worth i (f i)) k ≡ pack 256 f (suc k)
low_number zero f = sym (rw (pack_suc, pack_zero, pow-zero, mul-one, zero-add))
low_number (suc k) f = rw (low_number k f, pack_suc 256 f (suc k))

-- zeros above the first k bytes add nothing
zeros_above : (f : ℕ → ℕ) (k n : ℕ) → ((i : ℕ) → k ≤ i → f i ≡ 0) → pack 256 f (k + n) ≡ pack 256 f k
zeros_above f k zero h = rw add-zero
zeros_above f k (suc n) h = rw (add-suc, pack_suc, zeros_above f k n h, h (k + n) (omega arith), zero-mul, add-zero)

-- four bytes of which the first k are those from place at on, and the others 0
abbrev pub four_bytes : ℕ → List ℕ → ℕ → List ℕ
four_bytes k f at = slice_range f at (at + k) ++ drop k (replicate 4 0)

module _ (k : ℕ) (f : List ℕ) (at : ℕ) (few : k ≤ 4) (fits : at + k ≤ length f) where
  long : length (slice_range f at (at + k)) ≡ k
  long = length-between f at (at + k) fits ∙ (omega arith)

  same : (i : ℕ) → i < k → get_or (four_bytes k f at) i 0 ≡ get_or f (at + i) 0
  same i lt = get_or-append (slice_range f at (at + k)) _ 0 i (rw long lt) ∙ get_or-between f at (at + k) i 0 (omega arith)

  zeros : (i : ℕ) → k ≤ i → get_or (four_bytes k f at) i 0 ≡ 0
  zeros i le =
      get_or-append_right (slice_range f at (at + k)) _ k i 0 long le ∙ get_or-drop k _ (i - k) 0
      ∙ elim (cases_lt (k + (i - k)) 4) [ inl lt ↦ get_or-replicate 4 _ 0 0 lt | inr ge ↦ get_or-eq_default (replicate 4 0) 0 ge ]

  pub number_read : from_le_bytes w32 (four_bytes k f at) ≡ number_at k f at
  unfolding number_at
  number_read =
      let four : 4 ≡ k + (4 - k) = omega arith in
      let bytes : ℕ → ℕ = λ i. get_or (four_bytes k f at) i 0 in
      low_number 3 bytes ∙ ap (pack 256 bytes) four ∙ zeros_above bytes k (4 - k) zeros ∙ pack_ext 256 bytes _ k same

pub number_lt : (k : ℕ) (f : List ℕ) (at : ℕ) → Bytes f → number_at k f at < 256 ^ k
unfolding number_at
number_lt k f at bytes = pack_lt 256 _ k (λ i lt. bytes (at + i))
