-- `files::frame::opening_of` meets its contract: the frame decides, and then the records that it points back to. Assumes nothing.
use Rattle.std.proofs.Common.{◌≡◌, refl, sym, ◌∙◌, true, ◌≤◌, length, arith}
use Rattle.files.specs.Files.{tail_at, trailer_at, distance, lines_in, start_of, frame_ok, opening_of}
use Rattle.files.proofs.Frames.{Right, right}
use Rattle.files.proofs.Openings.{on_file_not, opening_is}
use Rattle.files.proofs.frame.opening_of.Goals as goal
use Rattle.files.proofs.frame.opening_of.Goals.{Else-not-frame_ok}

module _ (c : Else-not-frame_ok) where
  ok : frame_ok c.args.size c.args.edition c.args.file.now ≡ true
  ok = sym c.frame_ok.ensures ∙ c.if-not-frame_ok.false

  framed_right : Right c.args.size c.args.edition c.args.file.now
  framed_right = right _ _ _ ok

  long : 8 ≤ length c.args.file.now
  long = omega (arith, framed_right.long, c.requires)

pub returns-then-not-frame_ok : goal.returns-then-not-frame_ok
unfolding opening_of
returns-then-not-frame_ok c = sym (on_file_not _ _ _ (sym c.frame_ok.ensures ∙ c.if-not-frame_ok.true) _)

pub overflow_sub-tail : goal.overflow_sub-tail
overflow_sub-tail c = long c

pub overflow_sub-end : goal.overflow_sub-end
overflow_sub-end c = (framed_right c).long

pub number_at-requires : goal.number_at-requires
number_at-requires c = (omega arith, omega (arith, long c))

pub overflow_sub-at : goal.overflow_sub-at
unfolding distance tail_at trailer_at
overflow_sub-at c = rw c.number_at.ensures.0 (framed_right (goal.at.overflow_sub-at c).Else-not-frame_ok).behind

pub bounds-file-tail : goal.bounds-file-tail
bounds-file-tail c = omega (arith, long (goal.at.bounds-file-tail c).Else-not-frame_ok)

pub returns : goal.returns
unfolding lines_in start_of distance tail_at trailer_at
returns c =
    c.gates_between.ensures ∙ opening_is _ _ _ _ _ _ (ok (goal.at.returns c).Else-not-frame_ok) refl (rw c.number_at.ensures.0) refl
