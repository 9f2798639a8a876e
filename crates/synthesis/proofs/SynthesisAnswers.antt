-- The cases of the answer of synthesis, each with what it leaves in the room. Assumes nothing.
use Rattle.std.proofs.Common.{◌≡◌, sym, ◌∙◌, List, [], ◌∷◌, ℕ, ◌*◌, ◌/◌, ◌≤◌, ◌<◌, arith, length, lt-ltb, le-ltb}
use Rattle.card.specs.Card.{Answer.accepted, Answer.refused, laid}
use Rattle.card.proofs.Cards.{lines_are, refusing_yes, refusing_no, accepted_both}
use Rattle.tables.specs.Tables.{check_table_answer}
use Rattle.tables.proofs.Accepts.{checked_refused, checked_accepted, accepted_permutation}
use Rattle.cascades.specs.Cascades.{bytes_of}
use Rattle.synthesis.specs.Synthesis.{synthesized, bound, synthesize_answer, synthesize_room}
use Rattle.synthesis.proofs.Synthesis.{synthesized_bound}

module _ (n : ℕ) (t room : List ℕ) where
  -- 1 2 3 4
  pub refused_table : (k p : ℕ) → refused k p ≡ check_table_answer n t → synthesize_answer n t (length room) ≡ refused k p
  unfolding synthesize_answer
  refused_table k p e = checked_refused n t k p (sym e) _

  module _ (e : accepted [] ≡ check_table_answer n t) where
    -- 5
    pub refused_room : (most : ℕ) → most ≡ bound n → length room / 8 < most → synthesize_answer n t (length room) ≡ refused 5 most
    unfolding synthesize_answer
    refused_room most is_bound lt =
        checked_accepted n t (sym e) _ ∙ rw is_bound (refusing_yes _ 5 (bound n) _ (lt-ltb (length room / 8) (bound n) (omega (arith, is_bound, lt))))

    module _ (most : ℕ) (is_bound : most ≡ bound n) (le : most ≤ length room / 8) where
      -- the cascade has room
      pub cascade_fits : 8 * length (synthesized n t) ≤ length room
      cascade_fits =
          let w = accepted_permutation n t (sym e) in
          omega (arith, is_bound, le, synthesized_bound n t (lines_are n w.0).1 w.1)

      pub accepted_cascade : (m : ℕ) (room' : List ℕ) → m ≡ length (synthesized n t) → room' ≡ laid (bytes_of (synthesized n t)) room
          → record { answer : accepted (m ∷ []) ≡ synthesize_answer n t (length room); room_after : room' ≡ synthesize_room n t room }
      unfolding synthesize_answer synthesize_room
      accepted_cascade m room' em er =
          accepted_both _ (m ∷ []) _ room room'
          (checked_accepted n t (sym e) _ ∙ rw em (refusing_no _ 5 (bound n) _ (le-ltb (length room / 8) (bound n) (omega (arith, is_bound, le))))) er
