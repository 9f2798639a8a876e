-- `files::frame::frame_ok` meets its contract: each test that fails is one that a right frame passes. Assumes nothing.
use Rattle.std.proofs.Common.{sym, ap, ◌∙◌, ℕ, ◌*◌, arith}
use Rattle.files.specs.Files.{tail_at, trailer_at, distance, count, edition, start_of}
use Rattle.files.proofs.Frames.{not_right, frame_last}
use Rattle.files.proofs.frame.frame_ok.Goals as goal

pub returns-then-file-size : goal.returns-then-file-size
returns-then-file-size c = sym (not_right _ _ _ (λ r. omega (arith, r.long, c.if-file-size.true)))

pub returns-then-file-tail : goal.returns-then-file-tail
unfolding edition tail_at
returns-then-file-tail c = sym (not_right _ _ _ (λ r. c.if-file-tail.true r.of_edition))

pub returns-then-distance-number_at : goal.returns-then-distance-number_at
unfolding distance count tail_at
returns-then-distance-number_at c = sym (not_right _ _ _ (λ r. c.if-distance-number_at.true (c.number_at-distance.ensures.0 ∙ r.eight ∙ ap (λ (x : ℕ). 8 * x) (sym c.number_at.ensures.0))))

pub returns-then-end-distance : goal.returns-then-end-distance
unfolding distance tail_at trailer_at
returns-then-end-distance c = sym (not_right _ _ _ (λ r. omega (arith, r.behind, c.number_at-distance.ensures.0, c.if-end-distance.true)))

pub returns : goal.returns
unfolding distance count edition tail_at trailer_at start_of
returns c =
    let e = c.number_at-distance.ensures.0 in
    rw e (frame_last _ _ _ c.if-file-size.false c.if-file-tail.false (sym e ∙ c.if-distance-number_at.false ∙ ap (λ (x : ℕ). 8 * x) c.number_at.ensures.0) (rw e at c.if-end-distance.false))
