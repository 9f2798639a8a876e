-- Where a call accepts, what it has written lies within the room that was lent to it. Assumes nothing.
use Rattle.std.proofs.Common.{◌≡◌, sym, List, [], ◌∷◌, ℕ, ◌*◌, ◌/◌, ◌^◌, ◌≤◌, ltb, length, arith}
use Rattle.std.proofs.lemmas.Bool.{ltb-false, not-false}
use Rattle.std.proofs.lemmas.List.{length-take-le}
use Rattle.digits.proofs.Sizes.{patterns_most}
use Rattle.card.specs.Card.{Answer.accepted, refusing, on_lines}
use Rattle.card.proofs.Cards.{lines_are, refusing_passed}
use Rattle.tables.proofs.Accepts.{table_accepted}
use Rattle.gates.specs.Records.{is_record}
use Rattle.cascades.specs.Cascades.{records, gates_of}
use Rattle.cascades.specs.Answers.{invert_answer}
use Rattle.cascades.proofs.Cascades.{gates_count, whole_cascade}
use Rattle.cascades.proofs.Answers.{behind_accepted}
use Rattle.tabulating.specs.Tabulating.{tabulate_answer}
use Rattle.synthesis.specs.Synthesis.{synthesized, bound, synthesize_answer}
use Rattle.synthesis.proofs.Synthesis.{synthesized_bound}
use Rattle.rules.specs.Tidying.{tidied, tidy_answer}
use Rattle.rules.proofs.Promises.{tidied_count}

-- refusal 5 is given where the room is less than needed
roomy : (room needed : ℕ) (v m : ℕ) → refusing (ltb room needed) 5 needed (accepted (v ∷ [])) ≡ accepted (m ∷ []) → (needed ≤ room) × (m ≡ v)
roomy room needed v m e =
    let p = refusing_passed (ltb room needed) 5 needed (accepted (v ∷ [])) (m ∷ []) e in
    let s : m ≡ v = cc p.1 in
    (ltb-false room needed p.0, s)

-- ---- the calls that write, or tidy, in a room of so many entries or bytes

pub table_fits : (n : ℕ) (b : List ℕ) (room m : ℕ) → accepted (m ∷ []) ≡ tabulate_answer n b room → m ≤ room
unfolding tabulate_answer
table_fits n b room m e =
    let r = roomy room (3 ^ n) (3 ^ n) m (behind_accepted is_record n b _ (m ∷ []) (sym e)).1 in
    omega (arith, r.0, r.1)

pub inverse_fits : (n : ℕ) (b : List ℕ) (room m : ℕ) → accepted (m ∷ []) ≡ invert_answer n b room → 8 * m ≤ room
unfolding invert_answer
inverse_fits n b room m e =
    let r = roomy (room / 8) (records b) (records b) m (behind_accepted is_record n b _ (m ∷ []) (sym e)).1 in
    omega (arith, r.0, r.1)

pub tidied_fits : (n : ℕ) (b : List ℕ) (left steps : ℕ) → accepted (left ∷ steps ∷ []) ≡ tidy_answer n b → 8 * left ≤ length b
unfolding tidy_answer
tidied_fits n b left steps e =
    let behind = behind_accepted is_record n b _ (left ∷ steps ∷ []) (sym e) in
    let s : left ≡ length (tidied (gates_of b)).left = cc behind.1 in
    let ok = whole_cascade n b _ behind.0 in
    omega (arith, s, tidied_count n (gates_of b) ok, gates_count b)

pub synthesized_fits : (n : ℕ) (t : List ℕ) (room m : ℕ) → accepted (m ∷ []) ≡ synthesize_answer n t room → 8 * m ≤ room
unfolding synthesize_answer on_lines
synthesized_fits n t room m e =
    let o = refusing_passed _ 1 0 _ (m ∷ []) (sym e) in
    let p = table_accepted (3 ^ n) t _ (m ∷ []) o.1 in
    let r = roomy (room / 8) (bound n) (length (synthesized n t)) m p.1 in
    omega (arith, r.0, r.1, synthesized_bound n t (lines_are n (not-false _ o.0)).1 p.0)

-- a table, and what a call has written, is a part of its room, and as long as is told
pub ruleset fitting = (table_fits, inverse_fits, tidied_fits, synthesized_fits, patterns_most, length-take-le)
