-- Each promise has one answer. Two results that stand for the same answer of the document are equal, so an equation `.._as r ≡ answer` has one solution:
-- once for all calls, over the values of what is accepted, and then for each kind of values. For the two calls that hand a reference back: two results
-- that meet the promise have the same pointer and content, and for `open` the same numbers. What is not determined is the ghost name of the borrow of an
-- empty part. Assumes nothing.
use Rattle.std.specs.Prelude.{◌≡◌, ℕ, zero, suc, Bool, true, false, cond, List, [], ◌∷◌, get_or, Result, Ok, Err, Option, Some, None}
use Rattle.std.proofs.Common.{refl, sym, ap, ◌∙◌}
use denote.Ref.{Bor}
use Rattle.card.specs.declared.Refusal.{Refusal}
use Rattle.card.specs.Card.{Answer, Answer.accepted, Answer.refused, number, place, values, on_lines}
use Rattle.card.specs.Answers.{number_of, place_of, answer_as, done_as, number_as}
use Rattle.gates.specs.declared.Gate.{Gate}
use Rattle.cascades.specs.Cascades.{gates_of}
use Rattle.cascades.specs.Answers.{on_records}
use Rattle.boards.specs.Boards.{on_board}
use Rattle.tidying.specs.declared.Tidied.{Tidied}
use Rattle.tidying.specs.TidyAnswers.{tidied_values, tidied_as}
use Rattle.serials.specs.declared.Stopped.{Stopped}
use Rattle.serials.specs.Serials.{told_as}
use Rattle.files.specs.declared.ReadBack.{ReadBack}
use Rattle.files.specs.declared.Extent.{Extent}
use Rattle.files.specs.Files.{read_values, read_as, extent_values, opening_as, opening_answer}
use Rattle.choice.specs.declared.Choice.{Choice}
use Rattle.choice.specs.Choice.{choice_values, choice_as, second_wins, choose_answer, Handed}
use Rattle.readers.specs.declared.Reader.{Reader}
use Rattle.readers.specs.Readers.{Given, given_values, given_as, Opened}
use Rattle.demands.specs.CardRows.{decided}
use Rattle.demands.specs.Refusals.{choice_rows}
use Rattle.demands.proofs.Decided.{accepted_values}

-- what has a way back has one source
once : {A B : Type 0} (to : A → B) (back : B → A) → ((x : A) → back (to x) ≡ x) → (x y : A) → to x ≡ to y → x ≡ y
once to back same x y e = sym (same x) ∙ ap back e ∙ same y

-- ---- a refusal has its number and place to itself

-- the refusal with number k + 1 at p
abbrev refusal : ℕ → ℕ → Refusal
refusal k p =
    get_or (Refusal.Lines ∷ Refusal.TableLength ∷ Refusal.LargeEntry p ∷ Refusal.RepeatedEntry p ∷ Refusal.Room p ∷ Refusal.CascadeLength ∷ Refusal.NoGate p
    ∷ Refusal.LargePattern ∷ Refusal.Frame ∷ Refusal.Value ∷ Refusal.OtherTable p ∷ Refusal.NoGateLine p ∷ Refusal.FittedSet ∷ Refusal.Text p ∷ []) k Refusal.Lines

abbrev before : ℕ → ℕ
before zero = zero
before (suc k) = k

abbrev refusal_in : Answer → Refusal
refusal_in a = refusal (before (number a)) (place a)

refusal_back : (e : Refusal) → refusal_in (refused (number_of e) (place_of e)) ≡ e
refusal_back Refusal.Lines = refl
refusal_back Refusal.TableLength = refl
refusal_back (Refusal.LargeEntry p) = refl
refusal_back (Refusal.RepeatedEntry p) = refl
refusal_back (Refusal.Room p) = refl
refusal_back Refusal.CascadeLength = refl
refusal_back (Refusal.NoGate p) = refl
refusal_back Refusal.LargePattern = refl
refusal_back Refusal.Frame = refl
refusal_back Refusal.Value = refl
refusal_back (Refusal.OtherTable p) = refl
refusal_back (Refusal.NoGateLine p) = refl
refusal_back Refusal.FittedSet = refl
refusal_back (Refusal.Text p) = refl

pub refusal_once : (d e : Refusal) → number_of d ≡ number_of e → place_of d ≡ place_of e → d ≡ e
refusal_once d e k p = sym (refusal_back d) ∙ (λ i. refusal_in (refused (k i) (p i))) ∙ refusal_back e

-- ---- so has a result whose values have a way back

module _ {A : Type 0} (to : A → List ℕ) (back : List ℕ → A) (same : (x : A) → back (to x) ≡ x) where
  abbrev result_in : Answer → Result A Refusal
  result_in (accepted vs) = Ok (back vs)
  result_in (refused k p) = Err (refusal (before k) p)

  result_back : (r : Result A Refusal) → result_in (answer_as to r) ≡ r
  result_back (Ok x) = ap Ok (same x)
  result_back (Err e) = ap Err (refusal_back e)

  pub answer_once : (x y : Result A Refusal) → answer_as to x ≡ answer_as to y → x ≡ y
  answer_once = once (answer_as to) result_in result_back

-- value i of an accepted answer
abbrev value : List ℕ → ℕ → ℕ
value vs i = get_or vs i 0

-- `check_table`
pub done_once : (x y : Result Unit Refusal) → done_as x ≡ done_as y → x ≡ y
done_once = answer_once (λ _. []) (λ vs. tt) (λ x. refl)

-- all calls that answer one number
pub number_once : (x y : Result ℕ Refusal) → number_as x ≡ number_as y → x ≡ y
number_once = answer_once (λ m. m ∷ []) (λ vs. value vs 0) (λ x. refl)

-- `tidy`
pub tidied_once : (x y : Result Tidied Refusal) → tidied_as x ≡ tidied_as y → x ≡ y
tidied_once = answer_once tidied_values (λ vs. record { left = value vs 0; steps = value vs 1 }) (λ x. refl)

-- `read_file`
pub read_back_once : (x y : Result ReadBack Refusal) → read_as x ≡ read_as y → x ≡ y
read_back_once = answer_once read_values (λ vs. record { lines = value vs 0; gates = value vs 1; note = value vs 2 }) (λ x. refl)

-- `opening`
pub extent_once : (x y : Result Extent Refusal) → opening_as x ≡ opening_as y → x ≡ y
extent_once = answer_once extent_values (λ vs. record { lines = value vs 0; at = value vs 1; end = value vs 2 }) (λ x. refl)

-- `choose`: 1 the first, 2 the second
abbrev chosen : ℕ → Choice
chosen zero = Choice.First
chosen (suc zero) = Choice.First
chosen (suc (suc k)) = Choice.Second

chosen_back : (x : Choice) → chosen (value (choice_values x) 0) ≡ x
chosen_back Choice.First = refl
chosen_back Choice.Second = refl

pub choice_once : (x y : Result Choice Refusal) → choice_as x ≡ choice_as y → x ≡ y
choice_once = answer_once choice_values (λ vs. chosen (value vs 0)) chosen_back

-- `next`: 0 the end, 1 a gate
abbrev handed_out : ℕ → List ℕ → Option Gate
handed_out zero vs = None
handed_out (suc k) vs = Some (record { operator = value vs 1; target = value vs 2; controls = value vs 3 })

handed_back : (x : Option Gate) → handed_out (value (given_values x) 0) (given_values x) ≡ x
handed_back None = refl
handed_back (Some g) = refl

pub given_once : (x y : Given) → given_as x ≡ given_as y → x ≡ y
given_once = answer_once given_values (λ vs. handed_out (value vs 0) vs) handed_back

-- the calls of `serials`, whose refusals are numbers that a caller may have put there
abbrev told_in : Answer → Result ℕ Stopped
told_in (accepted vs) = Ok (value vs 0)
told_in (refused k p) = Err (record { number = k; place = p })

told_back : (x : Result ℕ Stopped) → told_in (told_as x) ≡ x
told_back (Ok m) = refl
told_back (Err e) = refl

pub told_once : (x y : Result ℕ Stopped) → told_as x ≡ told_as y → x ≡ y
told_once = once told_as told_in told_back

-- ---- references

-- `cheaper`: the same pointer and content
pub handed_once : (n v b : ℕ) (one two r s : Bor (List ℕ)) → Handed (choose_answer n v b one.now two.now) one two r
    → Handed (choose_answer n v b one.now two.now) one two s → (r.ref_ptr ≡ s.ref_ptr) × (r.now ≡ s.now)
unfolding choose_answer on_board on_lines on_records decided
handed_once n v b one two r s hr hs = go (choose_answer n v b one.now two.now) refl
  where
    wins : Bool
    wins = second_wins v b (gates_of one.now) (gates_of two.now)

    alike : r ≡ s → (r.ref_ptr ≡ s.ref_ptr) × (r.now ≡ s.now)
    alike e = (ap (λ x. x.ref_ptr) e, ap (λ x. x.now) e)

    go : (a : Answer) → choose_answer n v b one.now two.now ≡ a → (r.ref_ptr ≡ s.ref_ptr) × (r.now ≡ s.now)
    go (refused k p) e = let x = hr.none k p e in let y = hs.none k p e in (x.0 ∙ sym y.0, x.1 ∙ sym y.1)
    go (accepted vs) e = by wins refl
      where
        values_are : (cond wins 2 1 ∷ []) ≡ vs
        values_are = accepted_values (choice_rows n v b one.now two.now) (cond wins 2 1 ∷ []) vs e

        by : (w : Bool) → wins ≡ w → (r.ref_ptr ≡ s.ref_ptr) × (r.now ≡ s.now)
        by true q =
            let a : choose_answer n v b one.now two.now ≡ accepted (2 ∷ []) = e ∙ ap accepted (sym values_are) ∙ rw q in
            alike (hr.the_second a ∙ sym (hs.the_second a))
        by false q =
            let a : choose_answer n v b one.now two.now ≡ accepted (1 ∷ []) = e ∙ ap accepted (sym values_are) ∙ rw q in
            alike (hr.the_first a ∙ sym (hs.the_first a))

-- `open`: the same pointer and content of the part held, and the same numbers
pub opened_once : (f : Bor (List ℕ)) (r s : Reader) → Opened f r → Opened f s
    → (r.file.ref_ptr ≡ s.file.ref_ptr) × (r.file.now ≡ s.file.now) × ((r.lines ∷ r.at ∷ r.end ∷ []) ≡ (s.lines ∷ s.at ∷ s.end ∷ []))
opened_once f r s hr hs = go (opening_answer f.now) refl
  where
    go : (a : Answer) → opening_answer f.now ≡ a
        → (r.file.ref_ptr ≡ s.file.ref_ptr) × (r.file.now ≡ s.file.now) × ((r.lines ∷ r.at ∷ r.end ∷ []) ≡ (s.lines ∷ s.at ∷ s.end ∷ []))
    go (accepted vs) e =
        let x = hr.found vs e in
        let y = hs.found vs e in
        (ap (λ x. x.ref_ptr) (x.0 ∙ sym y.0), ap (λ x. x.now) (x.0 ∙ sym y.0), x.1 ∙ sym y.1)
    go (refused k p) e =
        let x = hr.none k p e in
        let y = hs.none k p e in
        (x.0 ∙ sym y.0, x.1 ∙ sym y.1, x.2 ∙ sym y.2)
