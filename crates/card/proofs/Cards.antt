-- The laws of the card: which case an answer is, and what a room holds. Assumes nothing.
use Rattle.std.proofs.Common.{◌≡◌, refl, sym, ◌∙◌, Bool, true, false, not, List, ◌++◌, ℕ, ◌+◌, ◌≤◌, zero-add, arith, leb, length, take, drop, take_at, leb-true, le-leb}
use Rattle.std.proofs.lemmas.List.Edits.{sets, sets-eq}
use Rattle.ranges.proofs.Bools.{and_left, and_right}
use Rattle.card.specs.Card.{Answer, Answer.accepted, Answer.refused, refusing, lines_ok, on_lines, after, laid}

pub lines_are : (n : ℕ) → lines_ok n ≡ true → (1 ≤ n) × (n ≤ 6)
unfolding lines_ok
lines_are n e = (leb-true 1 n (and_left (leb 1 n) _ e), leb-true n 6 (and_right (leb 1 n) _ e))

pub lines_good : (n : ℕ) → 1 ≤ n → n ≤ 6 → lines_ok n ≡ true
unfolding lines_ok
lines_good n a b = rw (le-leb 1 n a, le-leb n 6 b)

-- no answer is both a refusal and an acceptance
pub not_accepted : {A : Type 0} (k p : ℕ) (vs : List ℕ) → refused k p ≡ accepted vs → A
not_accepted k p vs e = let z : ◌≡◌ {A = ℕ} 0 1 = cc in absurd (omega arith)

-- a refusal is given, or passed over
pub refusing_yes : (bad : Bool) (k p : ℕ) (x : Answer) → bad ≡ true → refusing bad k p x ≡ refused k p
unfolding refusing
refusing_yes bad k p x e = rw e

pub refusing_no : (bad : Bool) (k p : ℕ) (x : Answer) → bad ≡ false → refusing bad k p x ≡ x
unfolding refusing
refusing_no bad k p x e = rw e

-- what is accepted was passed over
pub refusing_passed : (bad : Bool) (k p : ℕ) (x : Answer) (vs : List ℕ) → refusing bad k p x ≡ accepted vs → (bad ≡ false) × (x ≡ accepted vs)
unfolding refusing
refusing_passed true k p x vs e = not_accepted k p vs e
refusing_passed false k p x vs e = (refl, e)

pub no_lines : (n : ℕ) (x : Answer) → lines_ok n ≡ false → on_lines n x ≡ refused 1 0
unfolding on_lines
no_lines n x e = refusing_yes (not (lines_ok n)) 1 0 x (rw e)

pub good_lines : (n : ℕ) (x : Answer) → lines_ok n ≡ true → on_lines n x ≡ x
unfolding on_lines
good_lines n x e = refusing_no (not (lines_ok n)) 1 0 x (rw e)

-- a lent buffer afterwards
pub after_accepted : (a : Answer) (vs new old : List ℕ) → a ≡ accepted vs → after a new old ≡ new
unfolding after
after_accepted a vs new old e = rw e

pub after_refused : (a : Answer) (k p : ℕ) (new old : List ℕ) → a ≡ refused k p → after a new old ≡ old
unfolding after
after_refused a k p new old e = rw e

-- a call's two promises at once: the answer, and what the lent buffer holds
pub refused_both : (a : Answer) (k p : ℕ) (new old : List ℕ) → a ≡ refused k p → record { answer : refused k p ≡ a; room_after : old ≡ after a new old }
refused_both a k p new old e = record { answer = sym e; room_after = sym (after_refused a k p new old e) }

pub accepted_both : (a : Answer) (vs new old now : List ℕ) → a ≡ accepted vs → now ≡ new → record { answer : accepted vs ≡ a; room_after : now ≡ after a new old }
accepted_both a vs new old now e f = record { answer = sym e; room_after = f ∙ sym (after_accepted a vs new old e) }

-- stores from the start of a room on
pub sets_laid : (xs room : List ℕ) → length xs ≤ length room → sets room 0 xs ≡ laid xs room
unfolding laid
sets_laid xs room le =
    let s : sets room 0 xs ≡ xs ++ drop (0 + length xs) room = sets-eq xs room 0 (omega arith) in
    rw (zero-add (length xs)) at s

-- the start of a room is what was laid there
pub laid_front : (k : ℕ) (xs room : List ℕ) → length xs ≡ k → take k (laid xs room) ≡ xs
unfolding laid
laid_front k xs room e = take_at xs (drop (length xs) room) k e
