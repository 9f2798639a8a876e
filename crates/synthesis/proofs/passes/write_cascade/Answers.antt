-- `synthesis::passes::write_cascade` meets its contract: the copy is the given table, the words found are its cascade, and their bytes are written.
-- Assumes nothing.
use Rattle.std.proofs.Common.{◌≡◌, ◌≤◌, length, sym, ap, ◌∙◌, arith, length-take-le}
use Rattle.std.proofs.Math.Seq.{drop-length}
use Rattle.digits.proofs.Sizes.{patterns_most}
use Rattle.synthesis.specs.Synthesis.{synthesized}
use Rattle.synthesis.specs.Inner.TableSteps.{WordsLaid}
use Rattle.synthesis.proofs.Layings.{laid_length, cascade_laid}
use Rattle.synthesis.proofs.passes.write_cascade.Goals as goal
use Rattle.synthesis.proofs.passes.write_cascade.Goals.{Start}

module _ (c : Start) where
  few : length c.args.given.now ≤ 729
  few = let w = c.requires.settle.present in omega (arith, w.size, patterns_most c.args.n w.lines)

pub slice_bounds-entries-end : goal.slice_bounds-entries-end
slice_bounds-entries-end c = few (goal.at.slice_bounds-entries-end c).Start

pub slice_bounds-table-end : goal.slice_bounds-table-end
slice_bounds-table-end c = sym (length-take-le _ _ (few (goal.at.slice_bounds-table-end c).Start))

pub copy_from_slice-requires : goal.copy_from_slice-requires
copy_from_slice-requires c = length-take-le _ _ (few (goal.at.copy_from_slice-requires c).Start)

pub returns : goal.returns
returns c =
    let n = c.args.n in
    let words = c.new-words.result.words.now in
    let e = c.find_gates.new.words.start in
    let after = c.find_gates.new.words.words.now in
    let same = c.new.ensures.value.0 ∙ c.copy_from_slice.ensures.after in
    let all : c.new-words.result.start ≡ length words = c.new-words.ensures.none_laid.0 ∙ ap length (sym c.new-words.ensures.none_laid.1) in
    let w : WordsLaid (synthesized n c.args.given.now) e (length words) words after = rw (← same, ← all) c.find_gates.ensures in (
      ap length c.as_slice-laid.ensures ∙ omega (arith, laid_length _ e (length words) words after w, ap length (drop-length words)),
      c.write_words.ensures ∙ rw c.as_slice-laid.ensures (cascade_laid _ e words after _ w c.requires.records_fit),
    )
