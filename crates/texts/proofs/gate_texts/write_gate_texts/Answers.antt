-- `texts::gate_texts::write_gate_texts` meets its contract: at each turn the line of the next gate is written behind the others. Assumes nothing.
use Rattle.std.proofs.Common.{◌≡◌, refl, ◌∙◌, List, ◌++◌, ℕ, ◌+◌, ◌-◌, ◌*◌, ◌<◌, length}
use Rattle.std.proofs.Math.Nat.{sub-zero}
use Rattle.std.proofs.lemmas.List.{length_push}
use Rattle.std.specs.Slice.Iter.{chunks_exact_rest}
use Rattle.ranges.specs.Ranges.{span}
use Rattle.gates.specs.Inner.Words.{Word, GateWord, gate_of}
use Rattle.gates.proofs.Bytes.{word_gate}
use Rattle.cascades.specs.Cascades.{gate_in, records, gates_of}
use Rattle.texts.specs.GateTexts.{gate_text, gate_texts}
use Rattle.texts.specs.declared.storing.Writer.{Writer}
use Rattle.texts.specs.Inner.StoredTexts.{HasRoom, Wrote}
use Rattle.texts.specs.Inner.Names.{name_in, Printable}
use Rattle.texts.proofs.TextParts.{gates_none, gates_snoc, gates_more}
use Rattle.texts.proofs.Walks.{walking_start, walking_more, walking_word, walking_next, walking_end}
use Rattle.texts.proofs.Appends.{word_known}
use Rattle.texts.proofs.Writes.{wrote_none, wrote_both, fits_first, fits_next}
use Rattle.texts.proofs.gate_texts.write_gate_texts.Goals as goal
use Rattle.texts.proofs.gate_texts.write_gate_texts.Invariants.{Going}

-- one turn
module _ (names : List (List ℕ × ℕ)) (b : List ℕ) (p : Printable b) (rest : List ℕ) (i : ℕ) (out₀ out : Writer) (g : Going names b rest i out₀ out)
    (x more : List ℕ) (cut : rest ≡ x ++ more) (long : length x ≡ 8) (w : ℕ) (read : Word x 0 w) where
  lt : i < records b
  lt = walking_more b i rest g.walking x more cut long

  word : Word b (8 * i) w
  word = walking_word b i rest g.walking x more cut long w read

  known : GateWord w
  known = word_known p.lines b (records b) i w p.whole lt word

  abbrev line : List ℕ
  line = gate_text (name_in names) (gate_of w)

  ahead : HasRoom out (line ++ gate_texts (name_in names) (span (gate_in b) (i + 1) (records b - (i + 1))))
  ahead = rw (gates_more (name_in names) (gate_in b) (records b) i lt, word_gate b (8 * i) w word) at g.ahead

  next_fits : HasRoom out line
  next_fits = fits_first out line _ ahead

  turn : (after : Writer) → Wrote out line after → Going names b more (i + 1) out₀ after
  turn after wrote =
      record {
        walking = walking_next b i rest g.walking x more cut long;
        wrote = rw (gates_snoc (name_in names) (gate_in b) i, word_gate b (8 * i) w word) (wrote_both g.wrote wrote);
        ahead = fits_next wrote _ ahead;
      }

pub loop-record-init : goal.loop-record-init
unfolding gates_of
loop-record-init c =
    let rest : chunks_exact_rest c.into_iter-record-iterator.result ≡ c.args.cascade.now = cc in
    (cc, refl, record { walking = rw rest (walking_start _); wrote = rw gates_none (wrote_none _); ahead = rw sub-zero c.requires.1 })

pub put_gate-end-requires : goal.put_gate-end-requires
put_gate-end-requires c =
    let steps = c.in-Some.ensures.steps in
    let i = c.loop-record.invariant in
    known _ _ c.requires.0 _ _ _ _ i.2 _ _ steps.1.0 (steps.1.1 ∙ i.0) _ c.word_at.ensures

pub write_text-requires : goal.write_text-requires
write_text-requires c =
    let steps = c.in-Some.ensures.steps in
    let i = c.loop-record.invariant in
    rw c.put_gate-end.ensures.0.starts (next_fits _ _ c.requires.0 _ _ _ _ i.2 _ _ steps.1.0 (steps.1.1 ∙ i.0) _ c.word_at.ensures)

pub loop-record-preserved : goal.loop-record-preserved
loop-record-preserved c =
    let steps = c.in-Some.ensures.steps in
    let i = c.loop-record.invariant in
    let wrote = rw c.put_gate-end.ensures.0.starts at c.write_text.ensures in
    (steps.0 ∙ i.0, c.put_gate-end.ensures.0.long ∙ i.1, rw length_push (turn _ _ c.requires.0 _ _ _ _ i.2 _ _ steps.1.0 (steps.1.1 ∙ i.0) _ c.word_at.ensures _ wrote))

pub returns : goal.returns
unfolding gates_of
returns c =
    let i = c.loop-record.invariant in
    let all = walking_end _ _ _ i.2.walking (rw i.0 at c.in-None.ensures.steps.1.0) in
    rw (← all) i.2.wrote
