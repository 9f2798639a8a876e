-- `remembering::memory::Memory::start` meets its contract: both lists are filled from their start on, so that each row is clear up to the next; those
-- behind keep the number 0, which every stretch bounds; and every gate meets what is not known. Assumes nothing.
use Rattle.std.proofs.Common.{◌≡◌, refl, List, ℕ, zero, suc, ◌+◌, ◌*◌, ◌/◌, ◌<◌, length, get_or, replicate, ap, ◌∙◌, rules, arith}
use Rattle.std.proofs.Math.ListN.{length-replicate, get_or-replicate}
use Rattle.ranges.proofs.Fills.{filled, filling_start, filling_length, filling_next}
use Rattle.ranges.proofs.Changes.{filled_at, filled_rest}
use Rattle.remembering.specs.declared.memory.Memory.{Memory}
use Rattle.remembering.specs.declared.views.Sets.{Sets}
use Rattle.remembering.specs.Inner.Views.{all_kinds}
use Rattle.remembering.proofs.Clearances.{known_start}
use Rattle.remembering.proofs.Reaches.{reach_begun}
use Rattle.remembering.proofs.Stretches.{marked_start}
use Rattle.remembering.proofs.memory.Memory.start.Goals as goal

-- a blank list has 0 everywhere
zeros : (n r : ℕ) → ◌≡◌ {A = ℕ} (get_or (replicate n 0) r 0) 0
zeros zero r = refl
zeros (suc n) zero = refl
zeros (suc n) (suc r) = zeros n r

pub loop-r-init : goal.loop-r-init
loop-r-init g c = (refl, filling_start _ _)

pub loop-r-preserved : goal.loop-r-preserved
loop-r-preserved g c =
    (search rules, filling_next _ _ _ _ c.loop-r.invariant.1 0 _ refl (omega arith))

pub loop-s-init : goal.loop-s-init
loop-s-init g c = (refl, filling_start _ _)

pub loop-s-preserved : goal.loop-s-preserved
loop-s-preserved g c =
    let same = ap (λ (x : Memory g.row.R g.row.S). length x.reach) c.loop-r.invariant.0 in
    (search rules, filling_next _ _ _ _ c.loop-s.invariant.1 0 _ refl (omega (arith, same)))

pub returns-clause-numbers : goal.returns-clause-numbers
unfolding filled
returns-clause-numbers g c =
    let rows = c.loop-r.invariant in
    let stretches = c.loop-s.invariant in
    let all : c.loop-r.r ≡ c.args.m = omega arith in
    let last : c.loop-s.s ≡ (c.args.m + 15) / 16 = omega arith in (
      ap (λ (x : Memory g.row.R g.row.S). x.far) stretches.0 ∙ (rw all at rows.1.is),
      rw (last, ap (λ (x : Memory g.row.R g.row.S). x.reach) rows.0) at stretches.1.is,
      ap (λ (x : Memory g.row.R g.row.S). x.marks) stretches.0 ∙ ap (λ (x : Memory g.row.R g.row.S). x.marks) rows.0,
    )

pub returns-clause-bounded : goal.returns-clause-bounded
returns-clause-bounded g c = λ clean k.
    let m = c.args.m in
    let numbers = returns-clause-numbers g c in
    let was = c.args.self.now.far in
    let blank : was ≡ replicate g.row.R 0 = ap (λ (x : Memory g.row.R g.row.S). x.far) clean in
    reach_begun m ((m + 15) / 16) k _ _ (omega arith) (omega (arith, c.requires.0)) (λ r l. rw numbers.0 (filled_at (λ r. r + 1) was m r 0 l))
    (λ r l. rw numbers.0 (filled_rest (λ r. r + 1) was m r 0 l ∙ ap (λ (l : List ℕ). get_or l r 0) blank ∙ zeros g.row.R r))
    (λ s l. rw numbers.1 (filled_at (λ s. 16 * s + 16) c.args.self.now.reach ((m + 15) / 16) s 0 l))

pub returns-clause-fresh : goal.returns-clause-fresh
returns-clause-fresh g c = λ clean room gs e real.
    let m = c.args.m in
    let numbers = returns-clause-numbers g c in
    let was = c.args.self.now.far in
    let blank : was ≡ replicate g.row.R 0 = ap (λ (x : Memory g.row.R g.row.S). x.far) clean in
    let none : Sets = record { types = all_kinds; kinds = all_kinds } in
    let marks : c.loop-s.self.marks ≡ replicate g.row.S none = numbers.2 ∙ ap (λ (x : Memory g.row.R g.row.S). x.marks) clean in
    let long = length-replicate {A = Sets} g.row.S none in
    let far_long : length c.loop-s.self.far ≡ g.row.R =
    ap (λ (x : Memory g.row.R g.row.S). length x.far) c.loop-s.invariant.0 ∙ filling_length _ _ _ _ c.loop-r.invariant.1 ∙ ap length blank ∙ length-replicate g.row.R 0 in
    let low : (r : ℕ) → r < m → get_or c.loop-s.self.far r 0 ≡ r + 1 = λ r l. rw numbers.0 (filled_at (λ r. r + 1) was m r 0 l) in
    record {
      count = e;
      room = room;
      within = omega arith;
      known = known_start gs m _ e room.few (rw far_long room.far_room) low real;
      no_pair = λ r l. absurd (omega arith);
      bounds = returns-clause-bounded g c clean m;
      marked = marked_start gs _ (rw (marks, long) (omega (arith, room.reach_room)))
          (λ s l. rw marks (ap (λ (x : Sets). x.kinds) (get_or-replicate g.row.S s none (record { types = 0; kinds = 0 }) (rw (marks, long) at l))));
    }
