-- What a reader holds after the first k bytes of a text is what the definitions on the whole text say of them: `reads_next` is one byte more, `reads_whole` the whole
-- text. Assumes nothing.
use Rattle.std.proofs.Common.{◌≡◌, refl, sym, ap, ap₂, ◌∙◌, ◌⊎◌, ⊎_elim, true, false, cond, List, [], ◌∷◌, ◌++◌, ℕ, zero, suc, ◌+◌, ◌≤◌, ◌<◌, min, add-one, arith, ltb, length, get_or, drop, set, length-append, length-set, get_or-set_same, get_or-set_other, lt-ltb, le-ltb}
use Rattle.std.proofs.lemmas.List.{length-replicate}
use Rattle.std.proofs.Math.ListN.{get_or-append}
use Rattle.std.proofs.Math.Seq.{get_or-append_seam}
use Rattle.ranges.proofs.Bools.{decide}
use Rattle.ranges.proofs.Counts.{lt_or_le, here_or_later, one_more}
use Rattle.card.specs.Card.{lines_ok}
use Rattle.serials.specs.declared.Scan.{Scan}
use Rattle.serials.specs.declared.Serial.{Serial}
use Rattle.serials.specs.SerialTexts.{is_digit, is_mark, with_digit, byte_before, number_to, number_start, numbers_to, can_stand, wrong_byte, wrong_place}
use Rattle.serials.specs.Serials.{serial, stopped, comes_next, digit_taken, mark_taken, stepped, kept, opened, started, fed}
use Rattle.serials.proofs.WrongBytes.{before_next, number_digit, start_digit, numbers_digit, number_mark, start_mark, numbers_mark, wrong_stray, wrong_large, right}
use Rattle.serials.proofs.Serials.{next_digit, step_stray, step_mark, step_large, step_digit, kept_none, kept_one, after_byte, fed_more, fed_ends, fed_over}

-- two lists are alike as far as both go
abbrev pub Alike : List ℕ → List ℕ → Type 0
Alike es xs = (i : ℕ) → i < length es → i < length xs → get_or es i 0 ≡ get_or xs i 0

-- one more at the end of the one, set at its place in the other
alike_next : (es xs : List ℕ) (x : ℕ) → Alike es xs → Alike (set es (length xs) x) (xs ++ (x ∷ []))
alike_next es xs x same i lt lo =
    let le : i ≤ length xs = omega (arith, length-append xs (x ∷ [])) in
    let l : length (set es (length xs) x) ≡ length es = length-set es (length xs) x in
    ⊎_elim
    (λ (e : i ≡ length xs).
    let small : length xs < length es = omega (arith, lt, l, e) in
    rw e (get_or-set_same es (length xs) x 0 small ∙ sym (get_or-append_seam xs x [] 0)))
    (λ (before : i < length xs).
    get_or-set_other es (length xs) i x 0 (λ e. omega arith) ∙ same i (omega (arith, lt, l)) before ∙ sym (get_or-append xs (x ∷ []) 0 i before))
    (here_or_later le)

-- the text goes on after k bytes: none of them is wrong, and its numbers are kept, as far as there are places
pub record Goes (n : ℕ) (t : List ℕ) (k : ℕ) (r : Serial) : Type 0 where
  pub lines : r.scan.lines ≡ n
  pub on : r.scan.over ≡ 0
  pub at : r.scan.at ≡ k
  pub last : r.scan.last ≡ byte_before t k
  pub value : r.scan.value ≡ number_to t k
  pub first : r.scan.first ≡ number_start t k
  pub count : r.scan.count ≡ min (length (numbers_to t k)) 730
  pub size : length r.entries ≡ 729
  pub entries : Alike r.entries (numbers_to t k)
  pub none : (i : ℕ) → i < k → wrong_byte t i ≡ false

-- byte w, one of the first k, is the first that is wrong
pub record Stuck (t : List ℕ) (k : ℕ) (r : Serial) : Type 0 where
  pub w : ℕ
  pub among : w < k
  pub over : r.scan.over ≡ 1
  pub number : r.scan.number ≡ 14
  pub place : r.scan.place ≡ wrong_place t w
  pub hit : wrong_byte t w ≡ true
  pub none : (i : ℕ) → i < w → wrong_byte t i ≡ false

abbrev pub Reads : ℕ → List ℕ → ℕ → Serial → Type 0
Reads n t k r = Goes n t k r ⊎ Stuck t k r

module _ (n : ℕ) (t : List ℕ) (k : ℕ) (r : Serial) (g : Goes n t k r) where
  abbrev s : Scan
  s = r.scan

  abbrev b : ℕ
  b = get_or t k 0

  abbrev next : Serial
  next = after_byte r b

  none_next : wrong_byte t k ≡ false → (i : ℕ) → i < suc k → wrong_byte t i ≡ false
  none_next e i lt = one_more (λ j. wrong_byte t j ≡ false) k g.none e i (omega arith)

  -- byte k is wrong
  sticks : (p : ℕ) → stepped s b ≡ stopped s 14 p → (wrong_byte t k ≡ true) × (wrong_place t k ≡ p) → Stuck t (suc k) next
  unfolding stopped
  sticks p e w = rw e (record { w = k; among = omega arith; over = refl; number = refl; place = sym w.1; hit = w.0; none = g.none })

  -- it is a digit
  grows : is_digit b ≡ true → can_stand t k ≡ true → with_digit (number_to t k) b ≤ 65535 → stepped s b ≡ digit_taken s b (with_digit s.value b) → Goes n t (suc k) next
  unfolding digit_taken
  grows d can le e =
      let q = numbers_digit t k d in
      rw (e, kept_none s (digit_taken s b (with_digit s.value b)) r.entries (omega arith))
      (record {
        lines = g.lines;
        on = g.on;
        at = omega (arith, g.at);
        last = sym (before_next t k);
        value = rw (number_digit t k d, g.value);
        first = g.first ∙ sym (start_digit t k d);
        count = rw q g.count;
        size = g.size;
        entries = rw q g.entries;
        none = none_next (right t k can (rw (number_digit t k d) le));
      })

  -- it ends a number
  abbrev before : List ℕ
  before = numbers_to t k

  abbrev now : List ℕ
  now = before ++ (number_to t k ∷ [])

  longer : length now ≡ suc (length before)
  longer = length-append before (number_to t k ∷ []) ∙ omega arith

  -- among the entries es, in which the number stands if it has a place
  counted : (es : List ℕ) → is_mark b ≡ true → can_stand t k ≡ true → length es ≡ 729 → Alike es now
      → Goes n t (suc k) (serial (mark_taken s b) es)
  unfolding mark_taken
  counted es m can long same =
      let q = numbers_mark t k m in
      record {
        lines = g.lines;
        on = g.on;
        at = omega (arith, g.at);
        last = sym (before_next t k);
        value = sym (number_mark t k m);
        first = rw (g.at, start_mark t k m) (omega arith);
        count = rw (q, longer) (risen s.count (length before) g.count);
        size = long;
        entries = rw q same;
        none = none_next (right t k can (omega (arith, number_mark t k m)));
      }
    where
      risen : (c l : ℕ) → c ≡ min l 730 → cond (ltb c 730) (c + 1) c ≡ min (suc l) 730
      risen c l e =
          ⊎_elim (λ (lt : c < 730). rw (lt-ltb c 730 lt) (omega (arith, e))) (λ (le : 730 ≤ c). rw (le-ltb c 730 le) (omega (arith, e))) (lt_or_le c 730)

  ends : is_mark b ≡ true → can_stand t k ≡ true → stepped s b ≡ mark_taken s b → Goes n t (suc k) next
  ends m can e = rw e (⊎_elim few many (lt_or_le s.count 730))
    where
      -- it is counted, and kept at its place
      few : s.count < 730 → Goes n t (suc k) (serial (mark_taken s b) (kept s (mark_taken s b) r.entries))
      few lt =
          let l : s.count ≡ length before = omega (arith, g.count) in
          let up : s.count < (mark_taken s b).count = unfold mark_taken in rw (lt-ltb s.count 730 lt) (omega arith) in
          let at : kept s (mark_taken s b) r.entries ≡ set r.entries (length before) (number_to t k) =
          kept_one s (mark_taken s b) r.entries up ∙ ap₂ (set r.entries) l g.value in
          rw at
          (counted (set r.entries (length before) (number_to t k)) m can (length-set r.entries (length before) (number_to t k) ∙ g.size)
          (alike_next r.entries before (number_to t k) g.entries))

      -- it is not
      many : 730 ≤ s.count → Goes n t (suc k) (serial (mark_taken s b) (kept s (mark_taken s b) r.entries))
      many le =
          let same : (mark_taken s b).count ≡ s.count = unfold mark_taken in rw (le-ltb s.count 730 le) in
          rw (kept_none s (mark_taken s b) r.entries (omega (arith, same)))
          (counted r.entries m can g.size
          (λ i small lo.
          let within : i < length before = omega (arith, g.count, g.size) in
          g.entries i small within ∙ sym (get_or-append before (number_to t k ∷ []) 0 i within)))

  -- what the reader says of byte k is what the text says
  seen : comes_next s b ≡ can_stand t k
  unfolding comes_next can_stand
  seen = rw (g.at, g.last, g.value)

  pub reads_next : Reads n t (suc k) next
  reads_next =
      ⊎_elim right_byte
      (λ (e : can_stand t k ≡ false). ◌⊎◌.inr (sticks k (step_stray s b g.on (seen ∙ e) ∙ ap (stopped s 14) g.at) (wrong_stray t k e)))
      (decide (can_stand t k))
    where
      right_byte : can_stand t k ≡ true → Reads n t (suc k) next
      right_byte can =
          ⊎_elim (λ (m : is_mark b ≡ true). ◌⊎◌.inl (ends m can (step_mark s b g.on (seen ∙ can) m))) right_digit (decide (is_mark b))
        where
          right_digit : is_mark b ≡ false → Reads n t (suc k) next
          right_digit m =
              let d = next_digit s b (seen ∙ can) m in
              let v : with_digit s.value b ≡ with_digit (number_to t k) b = ap (λ (x : ℕ). with_digit x b) g.value in
              ⊎_elim
              (λ (large : 65535 < with_digit (number_to t k) b).
              ◌⊎◌.inr
              (sticks (number_start t k) (step_large s b g.on (seen ∙ can) m (rw v large) ∙ ap (stopped s 14) g.first)
              (wrong_large t k can (rw (number_digit t k d) large))))
              (λ (small : with_digit (number_to t k) b ≤ 65535).
              ◌⊎◌.inl (grows d can small (step_digit s b g.on (seen ∙ can) m (rw v small))))
              (lt_or_le 65535 (with_digit (number_to t k) b))

-- ---- the whole text

module _ (n : ℕ) (t : List ℕ) where
  -- what is left of it, m bytes from offset k on
  reads_left : (m k : ℕ) (r : Serial) → k + m ≡ length t → Reads n t k r → Reads n t (length t) (fed r (drop k t))
  reads_left zero k r e reads = let q : k ≡ length t = omega (arith, e) in rw (fed_ends r t k (omega arith)) (rw q at reads)
  reads_left (suc m) k r e (◌⊎◌.inl g) =
      rw (← fed_more r t k (omega (arith, e)), add-one) (reads_left m (suc k) (after_byte r (get_or t k 0)) (omega (arith, e)) (reads_next n t k r g))
  reads_left (suc m) k r e (◌⊎◌.inr x) =
      rw (fed_over r (drop k t) (λ z. omega (arith, x.over)))
      (◌⊎◌.inr
      (record { w = x.w; among = omega (arith, x.among, e); over = x.over; number = x.number; place = x.place; hit = x.hit; none = x.none }))

  starts : lines_ok n ≡ true → Goes n t 0 (started n)
  unfolding started opened byte_before number_to number_start numbers_to
  starts ok =
      record {
        lines = refl;
        on = rw ok;
        at = refl;
        last = refl;
        value = refl;
        first = refl;
        count = refl;
        size = length-replicate {A = ℕ} 729 0;
        entries = λ i lt none. absurd (omega (arith, none));
        none = λ i none. absurd (omega (arith, none));
      }

  pub reads_whole : lines_ok n ≡ true → Reads n t (length t) (fed (started n) t)
  reads_whole ok = reads_left (length t) 0 (started n) (omega arith) (◌⊎◌.inl (starts ok))
