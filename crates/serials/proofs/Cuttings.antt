-- However a text is cut, the answers and the table are those of the whole text in one part; what was refused and what has ended stays so. Assumes nothing.
use Rattle.std.proofs.Common.{◌≡◌, refl, sym, ap, ◌∙◌, ⊎_elim, Bool, true, false, cond, not, List, [], ◌∷◌, ℕ, ◌+◌, ◌^◌, ◌≤◌, ◌<◌, arith, eqb, ltb, length, length-take-le, get_or-take, ext_get_or, eqb-true, lt-ltb, le-ltb, ltb-false, eq-eqb, ne_eqb}
use Rattle.std.proofs.lemmas.Bool.{eqb-false, not-false}
use Rattle.ranges.specs.Ranges.{first}
use Rattle.ranges.proofs.Bools.{decide, clash}
use Rattle.ranges.proofs.Counts.{lt_or_le}
use Rattle.ranges.proofs.Searches.{Found, found, found_unique}
use Rattle.digits.proofs.Sizes.{patterns_most}
use Rattle.card.specs.Card.{Answer, Answer.accepted, Answer.refused, refusing, lines_ok, on_lines, after, laid}
use Rattle.card.proofs.Cards.{lines_are, refusing_yes, refusing_no, no_lines, good_lines, after_refused, not_accepted}
use Rattle.texts.specs.Texts.{joined}
use Rattle.tables.specs.Tables.{on_table}
use Rattle.tables.proofs.Accepts.{on_table_size}
use Rattle.serials.specs.declared.Scan.{Scan}
use Rattle.serials.specs.declared.Serial.{Serial}
use Rattle.serials.specs.SerialTexts.{byte_before, numbers_to, numbers_of, wrong_byte, wrong_place, first_wrong_byte, on_bytes, part_answer, entries_answer, end_answer, end_table}
use Rattle.serials.specs.Serials.{told_as, told_of, standing, stopped, stopped_by, opened, started, fed, fed_all, numbers_in, closing, ended, ended_table, Stands}
use Rattle.serials.proofs.Serials.{fed_over, fed_joined}
use Rattle.serials.proofs.Closings.{end_by}
use Rattle.serials.proofs.ReaderStates.{Goes, Stuck, reads_whole}

-- ---- the first wrong byte

pub wrong_none : (t : List ℕ) → ((i : ℕ) → i < length t → wrong_byte t i ≡ false) → ltb (first_wrong_byte t) (length t) ≡ false
unfolding first_wrong_byte
wrong_none t none =
    let w = first (wrong_byte t) 0 (length t) in
    le-ltb w (length t)
    (⊎_elim (λ (lt : w < length t). clash (wrong_byte t w) ((found (wrong_byte t) 0 (length t)).hit (omega arith)) (none w lt)) (λ (le : length t ≤ w). le)
    (lt_or_le w (length t)))

module _ (t : List ℕ) (x : Answer) where
  bytes_right : ((i : ℕ) → i < length t → wrong_byte t i ≡ false) → on_bytes t x ≡ x
  unfolding on_bytes
  bytes_right none = refusing_no _ 14 _ x (wrong_none t none)

  bytes_wrong : (w : ℕ) → w < length t → wrong_byte t w ≡ true → ((i : ℕ) → i < w → wrong_byte t i ≡ false) → on_bytes t x ≡ refused 14 (wrong_place t w)
  unfolding on_bytes first_wrong_byte
  bytes_wrong w lt hit none =
      let f : Found (wrong_byte t) 0 (0 + length t) w = record { from = omega arith; within = omega arith; before = λ k le l. none k l; hit = λ _. hit } in
      let q : first (wrong_byte t) 0 (length t) ≡ w = found_unique (wrong_byte t) 0 (0 + length t) _ w (found (wrong_byte t) 0 (length t)) f in
      rw q (refusing_yes _ 14 _ x (lt-ltb w (length t) lt))

-- ---- answers that stand

-- a number of entries m, or a refusal by a number of the card
data Tellable (m : ℕ) : Answer → Type 0 where
  entries : Tellable m (accepted (m ∷ []))
  refusal : (k p : ℕ) → (k ≡ 0 → ⊥) → Tellable m (refused k p)

tellable_behind : (m : ℕ) (bad : Bool) (k p : ℕ) (x : Answer) → (k ≡ 0 → ⊥) → (bad ≡ false → Tellable m x) → Tellable m (refusing bad k p x)
unfolding refusing
tellable_behind m true k p x ne tells = Tellable.refusal k p ne
tellable_behind m false k p x ne tells = tells refl

-- what stands is what is told
told_by : (s : Scan) (a : Answer) → Tellable s.count a → told_as (told_of (stopped_by s a)) ≡ a
unfolding told_of stopped
told_by s a Tellable.entries = refl
told_by s a (Tellable.refusal k p ne) = rw (ne_eqb k 0 ne)

closing_tellable : (r : Serial) (room : ℕ) → Tellable r.scan.count (closing r room)
unfolding closing on_lines entries_answer on_table
closing_tellable r room =
    tellable_behind _ _ 14 _ _ (λ e. omega arith) (λ _.
    tellable_behind _ _ 2 _ _ (λ e. omega arith) (λ few.
    tellable_behind _ _ 1 _ _ (λ e. omega arith) (λ _.
    tellable_behind _ _ 2 _ _ (λ e. omega arith) (λ same.
    tellable_behind _ _ 3 _ _ (λ e. omega arith) (λ _.
    tellable_behind _ _ 4 _ _ (λ e. omega arith) (λ _.
    tellable_behind _ _ 5 _ _ (λ e. omega arith) (λ _.
    let m : length (numbers_in r) ≡ r.scan.count = length-take-le r.scan.count r.entries (ltb-false (length r.entries) r.scan.count few) in
    let e : 3 ^ r.scan.lines ≡ r.scan.count = sym (eqb-true (length (numbers_in r)) (3 ^ r.scan.lines) (not-false _ same)) ∙ m in
    rw e Tellable.entries)))))))

-- ---- what stays as it is

over_stands : (r : Serial) → (r.scan.over ≡ 0 → ⊥) → Stands r
over_stands r ne =
    record {
      part = λ bytes. fed_over r bytes ne;
      end = λ room. unfold ended in rw (ne_eqb r.scan.over 0 ne);
      table = λ table. unfold ended_table in rw (ne_eqb r.scan.over 0 ne);
    }

-- a reader that tells a refusal
pub refused_stands : (r : Serial) (k p : ℕ) → standing r ≡ refused k p → Stands r
unfolding told_of
refused_stands r k p e = over_stands r (λ on. not_accepted k p (0 ∷ []) (sym (rw (eq-eqb r.scan.over 0 on) at e)))

-- one that was told the end
stopped_over : (s : Scan) (a : Answer) → (stopped_by s a).over ≡ 0 → ⊥
unfolding stopped
stopped_over s (accepted vs) e = omega arith
stopped_over s (refused k p) e = omega arith

pub ended_stands : (r : Serial) (room : ℕ) → Stands (ended r room)
ended_stands r room = over_stands (ended r room) (unfold ended in go (eqb r.scan.over 0) refl)
  where
    go : (b : Bool) → eqb r.scan.over 0 ≡ b → (cond b (stopped_by r.scan (closing r room)) r.scan).over ≡ 0 → ⊥
    go true e = stopped_over r.scan (closing r room)
    go false e = eqb-false r.scan.over 0 e

-- the lent table changes only where the end is accepted
pub refused_table : (r : Serial) (table : List ℕ) (k p : ℕ) → standing (ended r (length table)) ≡ refused k p → ended_table r table ≡ table
unfolding ended ended_table
refused_table r table k p = go (eqb r.scan.over 0)
  where
    go : (b : Bool) → told_as (told_of (cond b (stopped_by r.scan (closing r (length table))) r.scan)) ≡ refused k p
        → cond b (after (closing r (length table)) (laid (numbers_in r) table) table) table ≡ table
    go true e = after_refused _ k p _ table (sym (told_by r.scan _ (closing_tellable r (length table))) ∙ e)
    go false e = refl

-- ---- the whole text in one part

module _ (n : ℕ) (t : List ℕ) where
  abbrev reader : Serial
  reader = fed (started n) t

  -- what the definitions on the whole text say
  record Whole : Type 0 where
    part : standing reader ≡ part_answer n t
    end : (room : ℕ) → standing (ended reader room) ≡ end_answer n t room
    table : (table : List ℕ) → ended_table reader table ≡ end_table n t table

  -- a refusal that stands before the end
  refused_whole : (k p : ℕ) → standing reader ≡ refused k p → part_answer n t ≡ refused k p → ((room : ℕ) → end_answer n t room ≡ refused k p) → Whole
  refused_whole k p told same same_end =
      let stands = refused_stands reader k p told in
      record {
        part = told ∙ sym same;
        end = λ room. rw (stands.end room) (told ∙ sym (same_end room));
        table = λ table. stands.table table ∙ sym (unfold end_table in after_refused _ k p _ table (same_end (length table)));
      }

  bad_over : lines_ok n ≡ false → (started n).scan.over ≡ 0 → ⊥
  unfolding started opened
  bad_over bad = rw bad (λ e. omega arith)

  bad_lines : lines_ok n ≡ false → Whole
  bad_lines bad =
      refused_whole 1 0 (rw (fed_over (started n) t (bad_over bad)) (unfold started opened told_of in rw bad)) (unfold part_answer in no_lines n _ bad)
      (λ room. unfold end_answer in no_lines n _ bad)

  module _ (ok : lines_ok n ≡ true) where
    stuck : Stuck t (length t) reader → Whole
    stuck x =
        refused_whole 14 (wrong_place t x.w) (unfold told_of in rw (x.over, x.number, x.place)) (unfold part_answer in wrong _)
        (λ room. unfold end_answer in wrong _)
      where
        wrong : (a : Answer) → on_lines n (on_bytes t a) ≡ refused 14 (wrong_place t x.w)
        wrong a = good_lines n _ ok ∙ bytes_wrong t a x.w x.among x.hit x.none

    module _ (g : Goes n t (length t) reader) where
      abbrev xs : List ℕ
      xs = numbers_to t (length t)

      abbrev late : Bool
      late = not (eqb (byte_before t (length t)) 10)

      right : (a : Answer) → on_lines n (on_bytes t a) ≡ a
      right a = good_lines n _ ok ∙ bytes_right t a g.none

      -- the end's answer, behind 1 and 14 of a byte
      whole : (room : ℕ) → end_answer n t room ≡ refusing late 14 (length t) (entries_answer n xs room)
      unfolding end_answer numbers_of
      whole room = right _

      -- what the reader's end answers behind its own 14
      abbrev kept_answer : ℕ → Answer
      kept_answer room =
          refusing (ltb (length reader.entries) reader.scan.count) 2 0
          (on_lines reader.scan.lines (entries_answer reader.scan.lines (numbers_in reader) room))

      closes : (room : ℕ) (a : Answer) → kept_answer room ≡ a → closing reader room ≡ refusing late 14 (length t) a
      unfolding closing
      closes room a e =
          ap (λ (b : ℕ). refusing (not (eqb b 10)) 14 reader.scan.at (kept_answer room)) g.last
          ∙ ap (λ (p : ℕ). refusing late 14 p (kept_answer room)) g.at ∙ ap (refusing late 14 (length t)) e

      -- all numbers were kept
      module _ (few : length xs ≤ 729) where
        all_kept : numbers_in reader ≡ xs
        all_kept =
            let c : reader.scan.count ≡ length xs = omega (arith, g.count) in
            let l : length (numbers_in reader) ≡ length xs = rw c (length-take-le (length xs) reader.entries (omega (arith, g.size))) in
            ext_get_or 0 (numbers_in reader) xs l
            (λ i lt. get_or-take reader.scan.count reader.entries i 0 (omega (arith, l, c)) ∙ g.entries i (omega (arith, l, g.size)) (omega (arith, l)))

        few_close : (room : ℕ) → closing reader room ≡ end_answer n t room
        few_close room =
            let le : reader.scan.count ≤ length reader.entries = omega (arith, g.count, g.size) in
            closes room (entries_answer n xs room) (refusing_no _ 2 _ _ (le-ltb _ _ le) ∙ rw (g.lines, all_kept) (good_lines n _ ok)) ∙ sym (whole room)

      -- not all were, and there are too many
      module _ (many : 729 < length xs) where
        no_table : (room : ℕ) → entries_answer n xs room ≡ refused 2 0
        unfolding entries_answer
        no_table room = on_table_size (3 ^ n) xs _ (λ e. omega (arith, patterns_most n (lines_are n ok).1))

        many_close : (room : ℕ) → closing reader room ≡ end_answer n t room
        many_close room =
            let lt : length reader.entries < reader.scan.count = omega (arith, g.count, g.size) in
            closes room (refused 2 0) (refusing_yes _ 2 _ _ (lt-ltb _ _ lt)) ∙ sym (whole room ∙ ap (refusing late 14 (length t)) (no_table room))

      closes_as : (room : ℕ) → closing reader room ≡ end_answer n t room
      closes_as room = ⊎_elim (λ (many : 729 < length xs). many_close many room) (λ (few : length xs ≤ 729). few_close few room) (lt_or_le 729 (length xs))

      -- nothing is laid where there are too many
      none_laid : (many : 729 < length xs) (new table : List ℕ) → after (end_answer n t (length table)) new table ≡ table
      none_laid many new table = rw (whole (length table), no_table many (length table)) (go late)
        where
          go : (b : Bool) → after (refusing b 14 (length t) (refused 2 0)) new table ≡ table
          go true = after_refused _ 14 (length t) new table (refusing_yes true 14 _ _ refl)
          go false = after_refused _ 2 0 new table (refusing_no false 14 _ _ refl)

      laid_as : (table : List ℕ) → after (end_answer n t (length table)) (laid (numbers_in reader) table) table ≡ end_table n t table
      unfolding end_table numbers_of
      laid_as table =
          ⊎_elim (λ (many : 729 < length xs). none_laid many (laid (numbers_in reader) table) table ∙ sym (none_laid many (laid xs table) table))
          (λ (few : length xs ≤ 729). rw (all_kept few)) (lt_or_le 729 (length xs))

      goes : Whole
      goes =
          record {
            part = unfold told_of part_answer in rw g.on (sym (right (accepted (0 ∷ []))));
            end = λ room.
                unfold ended in rw (eq-eqb reader.scan.over 0 g.on, closes_as room) (told_by reader.scan _ (rw (closes_as room) at (closing_tellable reader room)));
            table = λ table. sym (end_by reader table g.on _ (closes_as (length table))).1 ∙ laid_as table;
          }

    good_lines_whole : Whole
    good_lines_whole = ⊎_elim goes stuck (reads_whole n t ok)

  one_part : Whole
  one_part = ⊎_elim good_lines_whole bad_lines (decide (lines_ok n))

-- ---- every cutting

module _ (n : ℕ) (parts : List (List ℕ)) where
  -- after the last part the reader answers as to the whole text so far
  pub cut_part : standing (fed_all (started n) parts) ≡ part_answer n (joined parts)
  cut_part = rw (fed_joined (started n) parts) (one_part n (joined parts)).part

  -- the end is answered as that of the whole text, and leaves the same table
  pub cut_end : (room : ℕ) → standing (ended (fed_all (started n) parts) room) ≡ end_answer n (joined parts) room
  cut_end room = rw (fed_joined (started n) parts) ((one_part n (joined parts)).end room)

  pub cut_table : (table : List ℕ) → ended_table (fed_all (started n) parts) table ≡ end_table n (joined parts) table
  cut_table table = rw (fed_joined (started n) parts) ((one_part n (joined parts)).table table)
