-- `texts::gate_texts::size_gate_texts` meets its contract: at each turn the line of the next gate is added. Assumes nothing.
use Rattle.std.proofs.Common.{◌≡◌, ◌∙◌, List, ◌++◌, ℕ, ◌+◌, ◌*◌, ◌≤◌, ◌<◌, length, length-append, arith}
use Rattle.std.proofs.lemmas.List.{length_push}
use Rattle.std.specs.Slice.Iter.{chunks_exact_rest}
use Rattle.card.proofs.Cards.{lines_are}
use Rattle.gates.specs.Inner.Words.{Word, GateWord, gate_of}
use Rattle.gates.proofs.Bytes.{word_gate}
use Rattle.gates.proofs.Records.{gate_at_lem}
use Rattle.cascades.specs.Cascades.{gate_in, records, gates_of}
use Rattle.texts.specs.GateTexts.{gate_text}
use Rattle.texts.specs.Inner.Names.{name_in, Printable}
use Rattle.texts.proofs.TextParts.{gates_none, gates_snoc}
use Rattle.texts.proofs.GateLengths.{gate_most}
use Rattle.texts.proofs.Walks.{walking_start, walking_more, walking_word, walking_next, walking_end}
use Rattle.texts.proofs.Appends.{word_known}
use Rattle.texts.proofs.Names.{name_short}
use Rattle.texts.proofs.gate_texts.size_gate_texts.Goals as goal
use Rattle.texts.proofs.gate_texts.size_gate_texts.Goals.{After-word_at}
use Rattle.texts.proofs.gate_texts.size_gate_texts.Invariants.{Going}

-- one turn
module _ (names : List (List ℕ × ℕ)) (six : length names ≡ 6) (b : List ℕ) (p : Printable b) (rest : List ℕ) (i size : ℕ) (g : Going names b rest i size)
    (x more : List ℕ) (cut : rest ≡ x ++ more) (long : length x ≡ 8) (w : ℕ) (read : Word x 0 w) where
  lt : i < records b
  lt = walking_more b i rest g.walking x more cut long

  word : Word b (8 * i) w
  word = walking_word b i rest g.walking x more cut long w read

  known : GateWord w
  known = word_known p.lines b (records b) i w p.whole lt word

  gate : gate_in b i ≡ gate_of w
  gate = word_gate b (8 * i) w word

  one : length (gate_text (name_in names) (gate_of w)) ≤ 31
  one =
      let few = (lines_are p.lines p.whole.lines).1 in
      rw (← gate) (gate_most (name_in names) (name_short names six) p.lines few (gate_in b i) (gate_at_lem p.lines b (8 * i) few (p.whole.each i lt)))

  turn : Going names b more (i + 1) (size + length (gate_text (name_in names) (gate_of w)))
  turn =
      record {
        walking = walking_next b i rest g.walking x more cut long;
        so_far = rw (gates_snoc (name_in names) (gate_in b) i, length-append, gate, g.so_far);
        small = omega (arith, one, g.small);
      }

pub loop-record-init : goal.loop-record-init
loop-record-init c =
    let rest : chunks_exact_rest c.into_iter-record-iterator.result ≡ c.args.cascade.now = cc in
    (cc, record { walking = rw rest (walking_start _); so_far = rw gates_none; small = omega arith })

pub size_gate-size-requires : goal.size_gate-size-requires
size_gate-size-requires c =
    let steps = c.in-Some.ensures.steps in
    let i = c.loop-record.invariant in
    known _ c.told-names _ c.requires _ _ _ i.1 _ _ steps.1.0 (steps.1.1 ∙ i.0) _ c.word_at.ensures

pub overflow_add-size : goal.overflow_add-size
overflow_add-size c =
    let steps = c.in-Some.ensures.steps in
    let i = c.loop-record.invariant in
    let at = one _ c.told-names _ c.requires _ _ _ i.1 _ _ steps.1.0 (steps.1.1 ∙ i.0) _ c.word_at.ensures in
    omega (arith, c.size_gate-size.ensures, at, i.1.small, i.1.walking.within, c.requires.whole.most)

pub loop-record-preserved : goal.loop-record-preserved
loop-record-preserved c =
    let steps = c.in-Some.ensures.steps in
    let i = c.loop-record.invariant in
    (steps.0 ∙ i.0, rw (length_push, c.size_gate-size.ensures) (turn _ c.told-names _ c.requires _ _ _ i.1 _ _ steps.1.0 (steps.1.1 ∙ i.0) _ c.word_at.ensures))

pub returns : goal.returns
unfolding gates_of
returns c =
    let i = c.loop-record.invariant in
    let all = walking_end _ _ _ i.1.walking (rw i.0 at c.in-None.ensures.steps.1.0) in
    record { bytes = rw (← all) i.1.so_far; most = omega (arith, i.1.small, all, c.requires.whole.most) }
