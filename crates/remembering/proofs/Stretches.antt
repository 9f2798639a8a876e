-- Views: a gate that meets nothing of the views and the kinds of many gates is quiet with each of them (`passed_next`), and what is known of
-- stretches stays true where a gate is replaced. What is finite is computed. Assumes nothing.
use Rattle.std.proofs.Common.{◌≡◌, refl, sym, ap, ap₂, ◌∙◌, ⊎_elim, Bool, true, false, cond, not, ◌&&◌, List, ℕ, zero, suc, ◌+◌, ◌-◌, ◌*◌, ◌/◌, ◌%◌, ◌^◌, ◌<◌, ◌≤◌, le_trans, mul-le-mul_left, arith, bit_and, bit_or, eqb, ltb, length, set, length-set, get_or-set_same, get_or-set_other, eqb-true, eq-eqb, ne_eqb, ltb-true}
use native.Mathlib.Nat.{pow-le-pow_right}
use native.Mathlib.Decide.{ℕ_discrete}
use lib.Bits.{and_comm, and_self, and_mask}
use borrow.Author.Tests.{not-true}
use Rattle.ranges.specs.Ranges.{every, sum}
use Rattle.ranges.specs.Lists.{Each}
use Rattle.ranges.proofs.Bools.{decide, clash}
use Rattle.ranges.proofs.Tests.{every_below}
use Rattle.ranges.proofs.Triples.{if_so}
use Rattle.ranges.proofs.Lists.{each_at}
use Rattle.ranges.proofs.Counts.{by_place}
use Rattle.digits.specs.Digits.{digit, pack}
use Rattle.digits.proofs.Digits.{digit_zero, digit_lt}
use Rattle.digits.proofs.Packs.{pack_ext, pack_digits, pack_lt, free_there, free_else}
use Rattle.digits.proofs.Bits.{digit_and, digit_of_zero, or_meets}
use Rattle.gates.specs.declared.Gate.{Gate}
use Rattle.gates.specs.Gates.{control, IsGate}
use Rattle.gates.specs.Inner.Words.{byte, gate_of, LowControls, control_marks, other_marks}
use Rattle.gates.proofs.Bytes.{byte_high, operator_word, target_word}
use Rattle.gates.proofs.Marks.{control_word_lem}
use Rattle.rules.specs.Places.{is_c, same_type, upsets, blocks, clashes, may_change}
use Rattle.rules.specs.Rules.{same_lines, fits}
use Rattle.rules.specs.Tidying.{gate}
use Rattle.rules.proofs.Rules.{both_or_none}
use Rattle.rules.proofs.FittingPairs.{type_swap, one_passes, lines_on, fits_passes}
use Rattle.remembering.specs.declared.views.Sets.{Sets}
use Rattle.remembering.specs.Inner.Buffers.{is_gap, GateOrGap}
use Rattle.remembering.specs.Inner.Rows.{Quiet, Clear}
use Rattle.remembering.specs.Inner.Views.{type_of, upsetters, shunned, own_part, view_of, other_part, against_of, six_bits, kind_of, all_kinds, SeenAs, MeetsNone, StretchPassed, mark, StretchesMarked}
use Rattle.remembering.proofs.Gaps.{gate_real, gap_passed, gap_unfit}

-- ---- the bytes of a view

six_times : (f : ℕ → ℕ) → 16 * pack 256 f 6 ≡ pack 256 (λ k. 16 * f k) 6
unfolding pack sum
six_times f = omega arith

upsetters_lt : (c : ℕ) → c < 4 → upsetters c < 16
unfolding upsetters every
upsetters_lt c lt = ltb-true _ _ (every_below (λ c. ltb (upsetters c) 16) 4 refl c lt)

-- the two halves of a byte
type_lt : (o : ℕ) → type_of o < 16
unfolding type_of
type_lt o = go (is_c o) (eqb o 3) (eqb o 4)
  where
    go : (a b c : Bool) → cond a 8 (cond b 1 (cond c 4 2)) < 16
    go true b c = omega arith
    go false true c = omega arith
    go false false true = omega arith
    go false false false = omega arith

pub own_lt : (o : ℕ) → own_part o < 256
unfolding own_part
own_lt o = go (eqb o 0) (type_lt o)
  where
    go : (none : Bool) → type_of o < 16 → cond none 0 (15 - type_of o + 16 * type_of o) < 256
    go true lt = omega arith
    go false lt = omega arith

pub other_lt : (o : ℕ) → other_part o < 256
unfolding other_part
other_lt o = omega (arith, own_lt o)

module _ (g : Gate) (ok : IsGate 6 g) where
  line_lt : (k : ℕ) → control g k < 4
  line_lt k = digit_lt 4 k g.controls (omega arith)

  bare : upsetters (control g g.target) ≡ 0
  unfolding upsetters
  bare = rw ok.own refl

  view_own : digit 256 g.target (view_of g) ≡ own_part g.operator
  unfolding view_of shunned
  view_own = free_there 256 (λ k. upsetters (control g k)) 6 (λ k l. omega (arith, upsetters_lt (control g k) (line_lt k))) g.target (own_part g.operator) ok.on_line bare (own_lt g.operator)

  view_line : (k : ℕ) → k < 6 → (k ≡ g.target → ⊥) → digit 256 k (view_of g) ≡ upsetters (control g k)
  unfolding view_of shunned
  view_line = free_else 256 (λ k. upsetters (control g k)) 6 (λ k l. omega (arith, upsetters_lt (control g k) (line_lt k))) g.target (own_part g.operator) ok.on_line bare (own_lt g.operator)

  against_is : against_of g ≡ pack 256 (λ k. 16 * upsetters (control g k)) 6 + other_part g.operator * 256 ^ g.target
  unfolding against_of shunned
  against_is = ap (λ (y : ℕ). y + other_part g.operator * 256 ^ g.target) (six_times (λ k. upsetters (control g k)))

  against_own : digit 256 g.target (against_of g) ≡ other_part g.operator
  against_own =
      ap (digit 256 g.target) against_is
      ∙ free_there 256 (λ k. 16 * upsetters (control g k)) 6 (λ k l. omega (arith, upsetters_lt (control g k) (line_lt k))) g.target (other_part g.operator) ok.on_line (omega (arith, bare)) (other_lt g.operator)

  against_line : (k : ℕ) → k < 6 → (k ≡ g.target → ⊥) → digit 256 k (against_of g) ≡ 16 * upsetters (control g k)
  against_line k lk ne =
      ap (digit 256 k) against_is
      ∙ free_else 256 (λ k. 16 * upsetters (control g k)) 6 (λ k l. omega (arith, upsetters_lt (control g k) (line_lt k))) g.target (other_part g.operator) ok.on_line (omega (arith, bare)) (other_lt g.operator) k lk ne

-- ---- what two bytes that do not meet say

apart_types : ℕ → ℕ → Bool
apart_types a b = cond (eqb (bit_and (own_part b) (other_part a)) 0) (same_type a b) true

bytes_types : (a b : ℕ) → 0 < a → a < 6 → 0 < b → b < 6 → bit_and (own_part b) (other_part a) ≡ 0 → same_type a b ≡ true
unfolding apart_types every type_of own_part other_part same_type is_c
bytes_types (suc a) (suc b) pa la pb lb e =
    if_so (eqb (bit_and (own_part (suc b)) (other_part (suc a))) 0) (same_type (suc a) (suc b))
    (every_below (λ b. apart_types (suc a) (suc b)) 5 (every_below (λ a. every (λ b. apart_types (suc a) (suc b)) 0 5) 5 refl a (omega arith)) b (omega arith)) (eq-eqb _ _ e)
bytes_types zero b pa la pb lb e = absurd (omega arith)
bytes_types (suc a) zero pa la pb lb e = absurd (omega arith)

-- f o c is 0 only where operator o does not upset the control c
upset_by : (f : ℕ → ℕ → ℕ) → every (λ o. every (λ c. cond (eqb (f (suc o) c) 0) (not (not (eqb c 3) && upsets (suc o) c)) true) 0 4) 0 5 ≡ true
    → (o c : ℕ) → 0 < o → o < 6 → c < 4 → f o c ≡ 0 → (not (eqb c 3) && upsets o c) ≡ false
upset_by f all (suc o) c po lo lc e =
    let test : ℕ → ℕ → Bool = λ o c. cond (eqb (f (suc o) c) 0) (not (not (eqb c 3) && upsets (suc o) c)) true in
    not-true _ (if_so (eqb (f (suc o) c) 0) (not (not (eqb c 3) && upsets (suc o) c)) (every_below (test o) 4 (every_below (λ o. every (test o) 0 4) 5 all o (omega arith)) c lc) (eq-eqb _ _ e))
upset_by f all zero c po lo lc e = absurd (omega arith)

bytes_upset : (o c : ℕ) → 0 < o → o < 6 → c < 4 → bit_and (upsetters c) (other_part o) ≡ 0 → (not (eqb c 3) && upsets o c) ≡ false
unfolding every upsetters type_of own_part other_part upsets is_c
bytes_upset = upset_by (λ o c. bit_and (upsetters c) (other_part o)) refl

bytes_back : (o c : ℕ) → 0 < o → o < 6 → c < 4 → bit_and (own_part o) (16 * upsetters c) ≡ 0 → (not (eqb c 3) && upsets o c) ≡ false
unfolding every upsetters type_of own_part upsets is_c
bytes_back = upset_by (λ o c. bit_and (own_part o) (16 * upsetters c)) refl

-- ---- a gate that does not pass

-- a gate that a gate cannot pass does not fit it
pub shut_unfit : (g h : Gate) → IsGate 6 g → GateOrGap h → may_change g h ≡ false → fits g h ≡ false
shut_unfit g h okg stands shut =
    ⊎_elim
    (λ (q : fits g h ≡ true).
    ⊎_elim (λ (e : is_gap h ≡ true). clash (fits g h) q (ap (fits g) (stands.blank e) ∙ gap_unfit g okg))
    (λ (e : is_gap h ≡ false). clash (may_change g h) (fits_passes g h okg (stands.real e) q) shut) (decide (is_gap h)))
    (λ (q : fits g h ≡ false). q) (decide (fits g h))

-- ---- two gates of which one meets nothing of the other's view

module _ (g h : Gate) (okg : IsGate 6 g) (okh : IsGate 6 h) where
  module _ (apart : bit_and (view_of h) (against_of g) ≡ 0) where
    at_line : (k : ℕ) → bit_and (digit 256 k (view_of h)) (digit 256 k (against_of g)) ≡ 0
    at_line k =
        let each : digit 256 k (bit_and (view_of h) (against_of g)) ≡ bit_and (digit 256 k (view_of h)) (digit 256 k (against_of g)) = digit_and 8 k (view_of h) (against_of g) in
        sym each ∙ ap (digit 256 k) apart ∙ digit_of_zero 256 k (omega arith)

    one_type : g.target ≡ h.target → same_type g.operator h.operator ≡ true
    one_type e =
        bytes_types g.operator h.operator (omega (arith, okg.op_low)) (omega (arith, okg.op_high)) (omega (arith, okh.op_low)) (omega (arith, okh.op_high))
        (ap₂ bit_and (sym (view_own h okh)) (sym (against_own g okg) ∙ ap (λ (k : ℕ). digit 256 k (against_of g)) e) ∙ at_line h.target)

    free_first : (g.target ≡ h.target → ⊥) → blocks g h ≡ false
    unfolding blocks
    free_first ne =
        bytes_upset g.operator (control h g.target) (omega (arith, okg.op_low)) (omega (arith, okg.op_high)) (line_lt h okh g.target)
        (ap₂ bit_and (sym (view_line h okh g.target okg.on_line ne)) (sym (against_own g okg)) ∙ at_line g.target)

    free_second : (g.target ≡ h.target → ⊥) → blocks h g ≡ false
    unfolding blocks
    free_second ne =
        bytes_back h.operator (control g h.target) (omega (arith, okh.op_low)) (omega (arith, okh.op_high)) (line_lt g okg h.target)
        (ap₂ bit_and (sym (view_own h okh)) (sym (against_line g okg h.target okh.on_line (λ e. ne (sym e)))) ∙ at_line h.target)

    two_pass : (g.target ≡ h.target → ⊥) → may_change g h ≡ true
    unfolding may_change clashes
    two_pass ne = rw (ne_eqb g.target h.target ne, free_first ne, free_second ne) refl

    two_back : (g.target ≡ h.target → ⊥) → may_change h g ≡ true
    unfolding may_change clashes
    two_back ne = rw (ne_eqb h.target g.target (λ e. ne (sym e)), free_first ne, free_second ne) refl

    seen_passes : (may_change g h ≡ true) × (may_change h g ≡ true)
    seen_passes = go (ℕ_discrete g.target h.target)
      where
        back : same_type g.operator h.operator ≡ true → same_type h.operator g.operator ≡ true
        back = type_swap g.operator h.operator (omega (arith, okg.op_high)) (omega (arith, okh.op_high))

        go : Dec (g.target ≡ h.target) → (may_change g h ≡ true) × (may_change h g ≡ true)
        go (yes e) = (one_passes g h okg okh e (one_type e), one_passes h g okh okg (sym e) (back (one_type e)))
        go (no ne) = (two_pass ne, two_back ne)

  -- a fitting pair is of one kind
  one_kind : fits g h ≡ true → kind_of h ≡ kind_of g
  unfolding kind_of
  one_kind e =
      let same : same_lines g h ≡ true = lines_on g h okg okh e in
      rw (gate_real g okg, gate_real h okh) (ap (λ (a : ℕ). 2 ^ six_bits a) (pack_ext 256 _ _ 6 (λ k l. ap (λ (b : Bool). cond b 0 1) (sym (both_or_none g h same k l)))))

-- the bit of a kind
kind_bit : (n : ℕ) → n < 64 → (0 < 2 ^ n) × (2 ^ n < 0x1_0000_0000_0000_0000)
unfolding every
kind_bit n lt = (ltb-true _ _ (every_below (λ n. ltb 0 (2 ^ n)) 64 refl n lt), ltb-true _ _ (every_below (λ n. ltb (2 ^ n) 0x1_0000_0000_0000_0000) 64 refl n lt))

-- and as it is shifted
pub shifted_bit : (n : ℕ) → n < 64 → (1 * 2 ^ n) % 0x1_0000_0000_0000_0000 ≡ 2 ^ n
unfolding every
shifted_bit n lt = eqb-true _ _ (every_below (λ n. eqb ((1 * 2 ^ n) % 0x1_0000_0000_0000_0000) (2 ^ n)) 64 refl n lt)

pub six_bits_lt : (a : ℕ) → six_bits a < 64
unfolding six_bits
six_bits_lt a = omega arith

kind_some : (g : Gate) → IsGate 6 g → (0 < kind_of g) × (kind_of g < 0x1_0000_0000_0000_0000)
unfolding kind_of
kind_some g ok = rw (gate_real g ok) (kind_bit _ (six_bits_lt _))

-- gates of one kind meet
kinds_meet : (g h : Gate) → IsGate 6 g → kind_of h ≡ kind_of g → bit_and (kind_of h) (kind_of g) ≡ 0 → ⊥
kinds_meet g h okg same other = some_kind (kind_some g okg).0 (sym (and_self (kind_of g)) ∙ ap (λ (x : ℕ). bit_and x (kind_of g)) (sym same) ∙ other)
  where
    some_kind : 0 < kind_of g → kind_of g ≡ 0 → ⊥
    some_kind pos e = omega arith

module _ (g h : Gate) (okg : IsGate 6 g) (apart : bit_and (view_of h) (against_of g) ≡ 0) (other : bit_and (kind_of h) (kind_of g) ≡ 0) where
  quiet_there : IsGate 6 h → Quiet g h
  quiet_there okh =
      record {
        unfit = ⊎_elim (λ (q : fits g h ≡ true). absurd (kinds_meet g h okg (one_kind g h okg okh q) other)) (λ (q : fits g h ≡ false). q) (decide (fits g h));
        pass = (seen_passes g h okg okh apart).0;
      }

  quiet_back : IsGate 6 h → Quiet h g
  quiet_back okh =
      record {
        unfit = ⊎_elim (λ (q : fits h g ≡ true). absurd (kinds_meet g h okg (sym (one_kind h g okh okg q)) other)) (λ (q : fits h g ≡ false). q) (decide (fits h g));
        pass = (seen_passes g h okg okh apart).1;
      }

  quiet_seen : GateOrGap h → Quiet g h × (is_gap h ≡ false → Quiet h g)
  quiet_seen stands = (
    ⊎_elim (λ (e : is_gap h ≡ true). rw (stands.blank e) (record { unfit = gap_unfit g okg; pass = gap_passed g okg })) (λ (e : is_gap h ≡ false). quiet_there (stands.real e))
        (decide (is_gap h)),
    λ e. quiet_back (stands.real e),
  )

-- ---- stretches

pub passed_next : (gs : List Gate) (x e : ℕ) (here : Sets) → Each GateOrGap gs → e < length gs → StretchPassed gs x e here
    → StretchPassed gs x (e + 1) (record { types = bit_or here.types (view_of (gate gs e)); kinds = bit_or here.kinds (kind_of (gate gs e)) })
passed_next gs x e here ok lt w = record { quiet = λ g okg m l c d. go g okg (parts (against_of g) here.types (view_of (gate gs e)) m.types) (parts (kind_of g) here.kinds (kind_of (gate gs e)) m.kinds) l c d (ℕ_discrete l e) }
  where
    parts : (x u w : ℕ) → bit_and x (bit_or u w) ≡ 0 → (bit_and x u ≡ 0) × (bit_and w x ≡ 0)
    parts x u w q = let both = or_meets u w x (and_comm (bit_or u w) x ∙ q) in (and_comm x u ∙ both.0, both.1)

    go : (g : Gate) → IsGate 6 g → (bit_and (against_of g) here.types ≡ 0) × (bit_and (view_of (gate gs e)) (against_of g) ≡ 0) → (bit_and (kind_of g) here.kinds ≡ 0) × (bit_and (kind_of (gate gs e)) (kind_of g) ≡ 0)
        → (l : ℕ) → x ≤ l → l < e + 1 → Dec (l ≡ e) → Quiet g (gate gs l) × (is_gap (gate gs l) ≡ false → Quiet (gate gs l) g)
    go g okg a b l c d (yes q) = rw q (quiet_seen g (gate gs e) okg a.1 b.1 (each_at GateOrGap gs _ ok e lt))
    go g okg a b l c d (no ne) = w.quiet g okg (record { types = a.0; kinds = b.0 }) l c (omega arith)

-- what is seen of a gate is what it must not meet
seen_met : (g : Gate) (seen here : Sets) → (seen.types ≡ against_of g) × (seen.kinds ≡ kind_of g) → MeetsNone seen here → MeetsNone (record { types = against_of g; kinds = kind_of g }) here
seen_met g seen here is m = record { types = rw (← is.0) m.types; kinds = rw (← is.1) m.kinds }

-- the gates of a stretch are quiet with what meets nothing of it, and with a gap
pub quiet_rows : (gs : List Gate) (x e : ℕ) (here : Sets) (g : Gate) (seen : Sets) → StretchPassed gs x e here → Each GateOrGap gs → GateOrGap g → SeenAs g seen → MeetsNone seen here
    → (l : ℕ) → x ≤ l → l < e → l < length gs → is_gap (gate gs l) ≡ false → Quiet (gate gs l) g
quiet_rows gs x e here g seen w ok stands is m l c d inside real =
    let okl : IsGate 6 (gate gs l) = (each_at GateOrGap gs _ ok l inside).real real in
    ⊎_elim (λ (q : is_gap g ≡ true). rw (stands.blank q) (record { unfit = gap_unfit (gate gs l) okl; pass = gap_passed (gate gs l) okl }))
    (λ (q : is_gap g ≡ false). (w.quiet g (stands.real q) (seen_met g seen here (is q) m) l c d).1 real) (decide (is_gap g))

-- every gate is of a kind, so that nothing is said where all kinds are there
some_rest : (n : ℕ) → 0 < n → n < 0x1_0000_0000_0000_0000 → n % 0x1_0000_0000_0000_0000 ≡ 0 → ⊥
some_rest n pos lt e = omega arith

pub passed_all : (gs : List Gate) (x e : ℕ) (here : Sets) → here.kinds ≡ all_kinds → StretchPassed gs x e here
passed_all gs x e here all =
    record { quiet = λ g ok m. let b : bit_and (kind_of g) all_kinds ≡ 0 = rw (← all) m.kinds in absurd (some_rest (kind_of g) (kind_some g ok).0 (kind_some g ok).1 (sym (and_mask (kind_of g) 64) ∙ b)) }

pub marked_start : (gs : List Gate) (marks : List Sets) → length gs ≤ 16 * length marks → ((s : ℕ) → s < length marks → (mark marks s).kinds ≡ all_kinds) → StretchesMarked gs marks
marked_start gs marks room e = record { room = room; each = λ s l. passed_all gs (16 * s) (16 * s + 16) _ (e s (omega arith)) }

-- gate p is replaced, and its stretch forgotten
pub marked_set : (gs : List Gate) (marks : List Sets) (p : ℕ) (g : Gate) (none : Sets) → p < length gs → none.kinds ≡ all_kinds → StretchesMarked gs marks → StretchesMarked (set gs p g) (set marks (p / 16) none)
marked_set gs marks p g none lt all w =
    record {
      room = rw (length-set gs p g, length-set marks (p / 16) none) w.room;
      each = λ s l. go s (rw (length-set gs p g) at l) (ℕ_discrete s (p / 16));
    }
  where
    go : (s : ℕ) → 16 * s + 16 ≤ length gs → Dec (s ≡ p / 16) → StretchPassed (set gs p g) (16 * s) (16 * s + 16) (mark (set marks (p / 16) none) s)
    go s l (yes e) = rw (e, get_or-set_same marks (p / 16) none (record { types = 0; kinds = 0 }) (omega (arith, w.room))) (passed_all (set gs p g) (16 * (p / 16)) (16 * (p / 16) + 16) none all)
    go s l (no ne) =
        rw (get_or-set_other marks (p / 16) s none (record { types = 0; kinds = 0 }) ne)
        (record { quiet = λ h ok m k c d. rw (get_or-set_other gs p k g _ (λ e. ne (omega arith))) ((w.each s l).quiet h ok m k c d) })

-- row i passes stretch s
pub clear_stretch : (gs : List Gate) (i s : ℕ) (seen here : Sets) → Clear gs i (16 * s) → 16 * s + 16 ≤ length gs → IsGate 6 (gate gs i) → SeenAs (gate gs i) seen → is_gap (gate gs i) ≡ false
    → StretchPassed gs (16 * s) (16 * s + 16) here → MeetsNone seen here → Clear gs i (16 * (s + 1))
clear_stretch gs i s seen here w inside ok is real passed m =
    record {
      past = omega (arith, w.past);
      inside = omega arith;
      quiet = λ l c d. by_place (Quiet (gate gs i) (gate gs l)) (16 * s) l (λ e. w.quiet l c e)
          (λ e. (passed.quiet (gate gs i) ok (seen_met (gate gs i) seen here (is real) m) l e (omega arith)).0);
    }

-- ---- what the code computes from a record's word

line_sum : (c : ℕ) → c < 4 → 12 * cond (eqb c 3) 0 1 + 4 * cond (eqb c 0) 0 1 ≡ upsetters c + c + 1
unfolding upsetters every
line_sum c lt = eqb-true _ _ (every_below (λ c. eqb (12 * cond (eqb c 3) 0 1 + 4 * cond (eqb c 0) 0 1) (upsetters c + c + 1)) 4 refl c lt)

lines_sum : (a z u f : ℕ → ℕ) → ((k : ℕ) → k < 6 → 12 * a k + 4 * z k ≡ u k + f k + 1) → 12 * pack 256 a 6 + 4 * pack 256 z 6 ≡ pack 256 u 6 + pack 256 f 6 + 0x0101_0101_0101
unfolding pack sum
lines_sum a z u f each =
    omega (arith, each 0 (omega arith), each 1 (omega arith), each 2 (omega arith), each 3 (omega arith), each 4 (omega arith), each 5 (omega arith))

module _ (w : ℕ) (low : LowControls w) where
  gap_word : is_gap (gate_of w) ≡ eqb (w % 256) 0
  unfolding is_gap gate_of
  gap_word = ap (λ (x : ℕ). eqb x 0) (digit_zero 256 w)

  marks_word : pack 256 (λ k. cond (eqb (control (gate_of w) k) 3) 0 1) 6 ≡ control_marks w
  unfolding control_marks
  marks_word = pack_ext 256 _ _ 6 (λ k l. ap (λ (x : ℕ). cond (eqb x 3) 0 1) (control_word_lem w low k l))

  pub kind_none : w % 256 ≡ 0 → kind_of (gate_of w) ≡ 0
  unfolding kind_of
  kind_none e = rw (gap_word ∙ eq-eqb (w % 256) 0 e) refl

  pub kind_word : (w % 256 ≡ 0 → ⊥) → kind_of (gate_of w) ≡ 2 ^ six_bits (control_marks w)
  unfolding kind_of
  kind_word ne = rw (gap_word ∙ ne_eqb (w % 256) 0 ne, marks_word) refl

module _ (w : ℕ) (small : w < 256 ^ 8) (low : LowControls w) where
  shunned_word : shunned (gate_of w) ≡ pack 256 (λ k. upsetters (byte (2 + k) w)) 6
  unfolding shunned
  shunned_word = pack_ext 256 _ _ 6 (λ k l. ap upsetters (control_word_lem w low k l))

  high_bytes : pack 256 (λ k. byte (2 + k) w) 6 ≡ w / 0x1_0000
  high_bytes = pack_ext 256 _ _ 6 (λ k l. sym (byte_high k w)) ∙ pack_digits 256 6 (w / 0x1_0000) (omega arith) (omega arith)

  pub shun_sum : 12 * control_marks w + 4 * other_marks w 0 ≡ shunned (gate_of w) + w / 0x1_0000 + 0x0101_0101_0101
  unfolding control_marks other_marks
  shun_sum =
      rw (shunned_word, ← high_bytes)
      (lines_sum (λ k. cond (eqb (byte (2 + k) w) 3) 0 1) (λ k. cond (eqb (byte (2 + k) w) (byte k 0)) 0 1) (λ k. upsetters (byte (2 + k) w)) (λ k. byte (2 + k) w)
      (λ k l. rw (digit_of_zero 256 k (omega arith)) (line_sum (byte (2 + k) w) (low.each k l))))

  pub shunned_lt : shunned (gate_of w) < 256 ^ 6
  shunned_lt = rw shunned_word (pack_lt 256 (λ k. upsetters (byte (2 + k) w)) 6 (λ k l. omega (arith, upsetters_lt (byte (2 + k) w) (low.each k l))))

  pub view_word : shunned (gate_of w) + own_part (w % 256) * 256 ^ (w / 256 % 256) ≡ view_of (gate_of w)
  unfolding view_of
  view_word = ap₂ (λ (o t : ℕ). shunned (gate_of w) + own_part o * 256 ^ t) (sym (operator_word w)) (sym (target_word w))

  pub against_word : 16 * shunned (gate_of w) + other_part (w % 256) * 256 ^ (w / 256 % 256) ≡ against_of (gate_of w)
  unfolding against_of
  against_word = ap₂ (λ (o t : ℕ). 16 * shunned (gate_of w) + other_part o * 256 ^ t) (sym (operator_word w)) (sym (target_word w))

-- a byte at the place of a line, or of a gap's target
pub part_most : (d w : ℕ) → d < 256 → w / 256 % 256 ≤ 6 → d * 256 ^ (w / 256 % 256) ≤ 0xff_0000_0000_0000
part_most d w lt le = le_trans (mul-le-mul_left d (pow-le-pow_right {n = 256} (omega arith) {i = w / 256 % 256} {j = 6} le)) (omega arith)
