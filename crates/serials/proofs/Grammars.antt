-- The grammar and the wrong bytes are one: `text_right` says that a text of the grammar has no wrong byte below offset 65,535, and which numbers it has; `right_text`
-- that a text without a wrong byte that does not end in a digit is one of the grammar; `begun` and `not_begun` which texts begin one. Assumes nothing.
use Rattle.std.proofs.Common.{◌≡◌, refl, sym, ap, ◌∙◌, ⊎_elim, true, false, not, List, [], ◌∷◌, ◌++◌, append_assoc, append-nil, ℕ, zero, suc, ◌+◌, ◌-◌, ◌*◌, ◌/◌, ◌%◌, ◌≤◌, ◌<◌, arith, ltb, length, get_or, take, drop, length-append, take-append-drop, take-suc, length-take-le, le-leb, eq-eqb, ne_eqb, ltb-false}
use Rattle.std.proofs.Math.ListN.{get_or-append}
use Rattle.std.proofs.Math.Seq.{get_or-append_seam, take-length}
use Rattle.std.proofs.lemmas.Bool.{not-false}
use Rattle.ranges.proofs.Bools.{and_right, or_left, or_right, decide, clash}
use Rattle.ranges.proofs.Counts.{lt_or_le, here_or_later}
use Rattle.texts.specs.Texts.{decimal}
use Rattle.texts.proofs.Decimals.{width_le, decimal_one, decimal_more}
use Rattle.serials.specs.SerialTexts.{is_digit, is_mark, with_digit, follows, byte_before, number_to, numbers_to, numbers_of, can_stand, wrong_byte}
use Rattle.serials.specs.Grammars.{TextOf, Begins}
use Rattle.serials.proofs.SerialTexts.{digit_low, digit_high, digit_unmarked, mark_no_digit, follows_digit}
use Rattle.serials.proofs.WrongBytes.{before_next, number_digit, numbers_digit, number_mark, numbers_mark, stands, right}

-- ---- which byte can follow

is_digit_lem : (d : ℕ) → d < 10 → is_digit (0x30 + d) ≡ true
unfolding is_digit
is_digit_lem d lt = rw (le-leb 0x30 (0x30 + d) (omega arith), le-leb (0x30 + d) 0x39 (omega arith))

-- a mark after a digit; a digit that begins a number; one more
mark_follows : (a x b : ℕ) → is_digit a ≡ true → is_mark b ≡ true → follows a x b ≡ true
unfolding follows
mark_follows a x b d m = rw (d, m)

first_follows : (a x b : ℕ) → is_digit a ≡ false → is_digit b ≡ true → follows a x b ≡ true
unfolding follows
first_follows a x b o d = rw (o, d)

more_follows : (a x b : ℕ) → is_digit a ≡ true → is_digit b ≡ true → (x ≡ 0 → ⊥) → follows a x b ≡ true
unfolding follows
more_follows a x b o d ne = rw (o, d, digit_unmarked b d, ne_eqb x 0 ne)

-- what stands before an offset where no number is under way
none_under : (t : List ℕ) (i : ℕ) → is_digit (byte_before t i) ≡ false → number_to t i ≡ 0
unfolding byte_before number_to
none_under t zero o = refl
none_under t (suc i) o = rw o

-- no mark follows but a digit, and no digit follows a leading 0
mark_behind : (a x b : ℕ) → follows a x b ≡ true → is_mark b ≡ true → is_digit a ≡ true
unfolding follows
mark_behind a x b e m =
    ⊎_elim (λ (d : is_digit a ≡ true). d) (λ (o : is_digit a ≡ false). clash (is_digit b) (rw o at e) (mark_no_digit b m)) (decide (is_digit a))

not_leading : (a x b : ℕ) → follows a x b ≡ true → is_digit a ≡ true → is_digit b ≡ true → x ≡ 0 → ⊥
unfolding follows
not_leading a x b e o d z = clash false (rw (o, d, digit_unmarked b d, eq-eqb x 0 z) at e) refl

-- ---- what stands before an offset does not hang on what comes later

module _ (p q : List ℕ) where
  same_before : (i : ℕ) → i ≤ length p → byte_before (p ++ q) i ≡ byte_before p i
  unfolding byte_before
  same_before zero le = refl
  same_before (suc i) le = get_or-append p q 0 i (omega arith)

  same_number : (i : ℕ) → i ≤ length p → number_to (p ++ q) i ≡ number_to p i
  unfolding number_to
  same_number zero le = refl
  same_number (suc i) le = rw (get_or-append p q 0 i (omega arith), same_number i (omega arith))

  same_numbers : (i : ℕ) → i ≤ length p → numbers_to (p ++ q) i ≡ numbers_to p i
  unfolding numbers_to
  same_numbers zero le = refl
  same_numbers (suc i) le = rw (get_or-append p q 0 i (omega arith), same_numbers i (omega arith), same_number i (omega arith))

  same_wrong : (i : ℕ) → i < length p → wrong_byte (p ++ q) i ≡ wrong_byte p i
  unfolding wrong_byte can_stand
  same_wrong i lt =
      rw (same_number (suc i) (omega arith), get_or-append p q 0 i lt, same_before i (omega arith), same_number i (omega arith))

-- none of the bytes of p below offset 65,535 is wrong
abbrev Right : List ℕ → Type 0
Right p = (i : ℕ) → i < length p → i < 65535 → wrong_byte p i ≡ false

-- ---- one byte more

module _ (p : List ℕ) (b : ℕ) where
  abbrev p' : List ℕ
  p' = p ++ (b ∷ [])

  abbrev n : ℕ
  n = length p

  longer : length p' ≡ suc n
  longer = length-append p (b ∷ []) ∙ omega arith

  here : get_or p' n 0 ≡ b
  here = get_or-append_seam p b [] 0

  last_byte : byte_before p' (length p') ≡ b
  last_byte = rw longer (before_next p' n ∙ here)

  before_here : byte_before p' n ≡ byte_before p n
  before_here = same_before p (b ∷ []) n (omega arith)

  number_here : number_to p' n ≡ number_to p n
  number_here = same_number p (b ∷ []) n (omega arith)

  numbers_here : numbers_to p' n ≡ numbers_to p n
  numbers_here = same_numbers p (b ∷ []) n (omega arith)

  -- it can follow, and shows no number that is too large
  right_next : Right p → follows (byte_before p n) (number_to p n) b ≡ true → number_to p' (suc n) ≤ 65535 → Right p'
  right_next r can small i lt early =
      ⊎_elim (λ (e : i ≡ n). rw e (right p' n (stands p' n (omega (arith, e)) (rw (here, before_here, number_here) can)) small))
      (λ (l : i < n). same_wrong p (b ∷ []) i l ∙ r i l early) (here_or_later {k = n} (omega (arith, longer)))

  module _ (d : is_digit b ≡ true) where
    at_digit : is_digit (get_or p' n 0) ≡ true
    at_digit = ap is_digit here ∙ d

    number_end : number_to p' (suc n) ≡ with_digit (number_to p n) b
    number_end = number_digit p' n at_digit ∙ rw (here, number_here)

    numbers_end : numbers_to p' (length p') ≡ numbers_to p n
    numbers_end = rw longer (numbers_digit p' n at_digit ∙ numbers_here)

  module _ (m : is_mark b ≡ true) where
    at_mark : is_mark (get_or p' n 0) ≡ true
    at_mark = ap is_mark here ∙ m

    mark_right : Right p → is_digit (byte_before p n) ≡ true → Right p'
    mark_right r o = right_next r (mark_follows (byte_before p n) (number_to p n) b o m) (omega (arith, number_mark p' n at_mark))

    mark_numbers : numbers_to p' (length p') ≡ numbers_to p n ++ (number_to p n ∷ [])
    mark_numbers = rw longer (numbers_mark p' n at_mark ∙ rw (numbers_here, number_here))

-- ---- a text of the grammar has no wrong byte

-- w is p with the digits of x behind it
record Spelt (p w : List ℕ) (x : ℕ) : Type 0 where
  good : Right w
  inside : is_digit (byte_before w (length w)) ≡ true
  value : number_to w (length w) ≡ x
  numbers : numbers_to w (length w) ≡ numbers_to p (length p)

-- a digit behind w makes the number x
spelt_digit : (p w : List ℕ) (x d : ℕ) → d < 10 → Right w → numbers_to w (length w) ≡ numbers_to p (length p)
    → follows (byte_before w (length w)) (number_to w (length w)) (0x30 + d) ≡ true → 10 * number_to w (length w) + d ≡ x → x ≤ 65535
    → Spelt p (w ++ ((0x30 + d) ∷ [])) x
spelt_digit p w x d lt r numbers can is small =
    let e = is_digit_lem d lt in
    let v : with_digit (number_to w (length w)) (0x30 + d) ≡ x = unfold with_digit in omega (arith, is) in
    record {
      good = right_next w (0x30 + d) r can (omega (arith, number_end w (0x30 + d) e, v, small));
      inside = ap is_digit (last_byte w (0x30 + d)) ∙ e;
      value = rw (longer w (0x30 + d)) (number_end w (0x30 + d) e ∙ v);
      numbers = numbers_end w (0x30 + d) e ∙ numbers;
    }

module _ (p : List ℕ) (r : Right p) (o : is_digit (byte_before p (length p)) ≡ false) where
  -- by the number of digits, fewer than m
  spelt : (m x : ℕ) → x < m → x ≤ 65535 → Spelt p (p ++ decimal x) x
  spelt zero x lt small = absurd (omega arith)
  spelt (suc m) x lt small = ⊎_elim one (more (spelt m (x / 10))) (lt_or_le x 10)
    where
      one : x < 10 → Spelt p (p ++ decimal x) x
      one few =
          rw (decimal_one x few)
          (spelt_digit p p x x few r refl (first_follows _ _ (0x30 + x) o (is_digit_lem x few)) (omega (arith, none_under p (length p) o)) small)

      more : (x / 10 < m → x / 10 ≤ 65535 → Spelt p (p ++ decimal (x / 10)) (x / 10)) → 10 ≤ x → Spelt p (p ++ decimal x) x
      more fewer many =
          let q = x / 10 in
          let d = x % 10 in
          let is : 10 * q + d ≡ x = omega arith in
          let s = fewer (omega arith) (omega arith) in
          let ds : decimal x ≡ decimal q ++ ((0x30 + d) ∷ []) =
          ap decimal (sym is) ∙ decimal_more q d (λ z. omega arith) (omega arith) (omega (arith, width_le q 4 (omega arith) (omega arith))) in
          rw (ds, ← append_assoc p (decimal q) ((0x30 + d) ∷ []))
          (spelt_digit p (p ++ decimal q) x d (omega arith) s.good s.numbers
          (more_follows _ _ (0x30 + d) s.inside (is_digit_lem d (omega arith)) (λ z. omega (arith, s.value))) (omega (arith, s.value)) small)

numbered : (t xs : List ℕ) (x mark : ℕ) → is_mark mark ≡ true → Spelt t (t ++ decimal x) x → numbers_of t ≡ xs
    → numbers_of (t ++ decimal x ++ (mark ∷ [])) ≡ xs ++ (x ∷ [])
unfolding numbers_of
numbered t xs x mark m s e = mark_numbers (t ++ decimal x) mark m ∙ rw (s.numbers, s.value, e)

-- and its numbers are the grammar's
pub text_right : {t xs : List ℕ} → TextOf t xs
    → ((i : ℕ) → i < length t → i < 65535 → wrong_byte t i ≡ false) × (is_digit (byte_before t (length t)) ≡ false) × (numbers_of t ≡ xs)
text_right TextOf.none = ((λ i lt early. absurd (omega arith)), (unfold byte_before is_digit in refl), (unfold numbers_of numbers_to in refl))
text_right (TextOf.number {t} {xs} x mark text small m) =
    let g = text_right text in
    let s = spelt t g.0 g.1 (suc x) x (omega arith) small in (
      mark_right (t ++ decimal x) mark m s.good s.inside,
      ap is_digit (last_byte (t ++ decimal x) mark) ∙ mark_no_digit mark m,
      numbered t xs x mark m s g.2,
    )

-- ---- a text without a wrong byte is one of the grammar

-- a number is under way after k bytes: p is the text before it
record Under (t : List ℕ) (k : ℕ) : Type 0 where
  p : List ℕ
  split : take k t ≡ p ++ decimal (number_to t k)
  text : TextOf p (numbers_to t k)
  small : number_to t k ≤ 65535

data Parsed (t : List ℕ) (k : ℕ) : Type 0 where
  between : is_digit (byte_before t k) ≡ false → TextOf (take k t) (numbers_to t k) → Parsed t k
  within : is_digit (byte_before t k) ≡ true → Under t k → Parsed t k

module _ (t : List ℕ) (k : ℕ) (lt : k < length t) (e : wrong_byte t k ≡ false) where
  abbrev c : ℕ
  c = get_or t k 0

  can : follows (byte_before t k) (number_to t k) c ≡ true
  unfolding wrong_byte can_stand
  can = and_right (ltb k 65535) _ (not-false _ (or_left _ (ltb 65535 (number_to t (suc k))) e))

  fits : number_to t (suc k) ≤ 65535
  unfolding wrong_byte
  fits = ltb-false 65535 (number_to t (suc k)) (or_right (not (can_stand t k)) _ e)

  one_later : take (suc k) t ≡ take k t ++ (c ∷ [])
  one_later = take-suc t k 0 lt

  same_byte : is_digit c ≡ true → 0x30 + (c - 0x30) ≡ c
  same_byte d = omega (arith, digit_low c d)

  -- a digit begins a number
  starts : is_digit (byte_before t k) ≡ false → is_digit c ≡ true → TextOf (take k t) (numbers_to t k) → Parsed t (suc k)
  starts o d text =
      let v : number_to t (suc k) ≡ c - 0x30 = number_digit t k d ∙ (unfold with_digit in omega (arith, none_under t k o)) in
      let ds : decimal (c - 0x30) ≡ c ∷ [] = decimal_one (c - 0x30) (omega (arith, digit_high c d)) ∙ ap (λ (b : ℕ). b ∷ []) (same_byte d) in
      Parsed.within (ap is_digit (before_next t k) ∙ d)
      (record { p = take k t; split = one_later ∙ rw (v, ds); text = rw (numbers_digit t k d) text; small = fits })

  -- a digit goes on
  grows : is_digit c ≡ true → (number_to t k ≡ 0 → ⊥) → Under t k → Parsed t (suc k)
  grows d ne u =
      let x = number_to t k in
      let v : number_to t (suc k) ≡ 10 * x + (c - 0x30) = number_digit t k d ∙ (unfold with_digit in refl) in
      let few = width_le x 5 (omega arith) (omega (arith, u.small)) in
      let ds : decimal (10 * x + (c - 0x30)) ≡ decimal x ++ (c ∷ []) =
      decimal_more x (c - 0x30) ne (omega (arith, digit_high c d)) (omega (arith, few)) ∙ ap (λ (b : ℕ). decimal x ++ (b ∷ [])) (same_byte d) in
      Parsed.within (ap is_digit (before_next t k) ∙ d)
      (record {
        p = u.p;
        split = one_later ∙ ap (λ (l : List ℕ). l ++ (c ∷ [])) u.split ∙ append_assoc u.p (decimal x) (c ∷ []) ∙ rw (v, ds);
        text = rw (numbers_digit t k d) u.text;
        small = fits;
      })

  -- a mark ends it
  ends : is_mark c ≡ true → Under t k → Parsed t (suc k)
  ends m u =
      Parsed.between (ap is_digit (before_next t k) ∙ mark_no_digit c m)
      (rw (one_later, u.split, numbers_mark t k m) (TextOf.number (number_to t k) c u.text u.small m))

  parsed_next : Parsed t k → Parsed t (suc k)
  parsed_next (Parsed.between o text) =
      ⊎_elim (λ (m : is_mark c ≡ true). clash (is_digit (byte_before t k)) (mark_behind _ _ c can m) o)
      (λ (m : is_mark c ≡ false). starts o (follows_digit _ _ c can m) text) (decide (is_mark c))
  parsed_next (Parsed.within o u) =
      ⊎_elim (λ (m : is_mark c ≡ true). ends m u)
      (λ (m : is_mark c ≡ false). let d = follows_digit _ _ c can m in grows d (not_leading _ _ c can o d) u) (decide (is_mark c))

-- the first k bytes, none of which is wrong
parsed : (t : List ℕ) (k : ℕ) → k ≤ length t → ((i : ℕ) → i < k → wrong_byte t i ≡ false) → Parsed t k
parsed t zero le none = Parsed.between (unfold byte_before is_digit in refl) (unfold numbers_to in TextOf.none)
parsed t (suc k) le none = parsed_next t k (omega arith) (none k (omega arith)) (parsed t k (omega arith) (λ i lt. none i (omega arith)))

pub right_text : (t : List ℕ) → ((i : ℕ) → i < length t → wrong_byte t i ≡ false) → is_digit (byte_before t (length t)) ≡ false → TextOf t (numbers_of t)
unfolding numbers_of
right_text t none o = go (parsed t (length t) (omega arith) none)
  where
    go : Parsed t (length t) → TextOf t (numbers_to t (length t))
    go (Parsed.between i text) = rw (take-length t) at text
    go (Parsed.within i u) = clash (is_digit (byte_before t (length t))) i o

-- ---- what begins a text of the grammar

-- bytes none of which is wrong
pub begun : (t : List ℕ) (k : ℕ) → k ≤ length t → ((i : ℕ) → i < k → wrong_byte t i ≡ false) → Begins (take k t)
begun t k le none = go (parsed t k le none)
  where
    go : Parsed t k → Begins (take k t)
    go (Parsed.between o text) = record { rest = []; numbers = numbers_to t k; text = rw (append-nil (take k t)) text }
    go (Parsed.within o u) =
        record {
          rest = 10 ∷ [];
          numbers = numbers_to t k ++ (number_to t k ∷ []);
          text = rw u.split (TextOf.number (number_to t k) 10 u.text u.small (unfold is_mark in refl));
        }

-- and not those up to a wrong one
pub not_begun : (t : List ℕ) (i : ℕ) → i < length t → i < 65535 → wrong_byte t i ≡ true → Begins (take (suc i) t) → ⊥
not_begun t i lt early wrong b =
    let front = take (suc i) t in
    let long : length front ≡ suc i = length-take-le (suc i) t (omega arith) in
    let whole = (text_right b.text).0 i (omega (arith, length-append front b.rest, long)) early in
    let same : wrong_byte t i ≡ wrong_byte front i =
    ap (λ (l : List ℕ). wrong_byte l i) (sym (take-append-drop (suc i) t)) ∙ same_wrong front (drop (suc i) t) i (omega (arith, long)) in
    clash (wrong_byte front i) (sym same ∙ wrong) (sym (same_wrong front b.rest i (omega (arith, long))) ∙ whole)
