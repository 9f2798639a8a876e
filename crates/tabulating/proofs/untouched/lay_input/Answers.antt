-- `tabulating::untouched::lay_input` meets its contract: line after line. Assumes nothing.
use Rattle.std.proofs.Common.{◌≡◌, ap, ◌∙◌, ℕ, ◌<◌, ◌+◌, [], List, get_or, set, length-set, arith}
use Rattle.std.proofs.Math.Decide.{ℕ_discrete}
use Rattle.std.proofs.lemmas.List.{get_or-set_same, get_or-set_other}
use Rattle.digits.specs.Digits.{digit}
use Rattle.digits.proofs.Digits.{digit_lt}
use Rattle.gates.proofs.Firing.{digit_quad}
use Rattle.tabulating.specs.Inner.Planes.{LineUpTo, ShownUpTo}
use Rattle.tabulating.proofs.UntouchedPlanes.{untouched_next}
use Rattle.tabulating.proofs.untouched.lay_input.Goals as goal
use Rattle.tabulating.proofs.untouched.lay_input.Goals.{After-add_to_line}

module _ (c : After-add_to_line) where
  abbrev line : List (List ℕ)
  line = c.add_to_line.new.line

  next : ShownUpTo c.args.planes.now c.args.p → LineUpTo c.loop-k.k line (c.args.p + 1)
  next shown =
      untouched_next c.loop-k.k c.args.p c.control_on.result _ line
      (c.control_on.ensures ∙ ap (digit 4 c.loop-k.k) c.quad_of-q.ensures ∙ digit_quad _ _ c.loop-k-test.true) c.add_to_line.ensures
      (c.loop-k.invariant.left shown c.loop-k.k c.loop-k-test.true (omega arith))

  done : ShownUpTo c.args.planes.now c.args.p → (i : ℕ) → i < 6 → i < c.loop-k.k + 1 → Dec (i ≡ c.loop-k.k) → LineUpTo i (get_or (set c.loop-k.planes c.loop-k.k line) i []) (c.args.p + 1)
  done shown i li lt (yes e) = rw (e, get_or-set_same c.loop-k.planes c.loop-k.k line [] (omega (arith, c.loop-k.invariant.long, c.loop-k-test.true))) (next shown)
  done shown i li lt (no ne) = rw (get_or-set_other c.loop-k.planes c.loop-k.k i line [] ne) (c.loop-k.invariant.done shown i li (omega arith))

pub add_to_line-requires : goal.add_to_line-requires
add_to_line-requires c = (rw c.control_on.ensures (digit_lt 4 _ _ (omega arith)), c.requires)

pub loop-k-preserved : goal.loop-k-preserved
loop-k-preserved c =
    record {
      long = simp length-set c.loop-k.invariant.long;
      done = λ shown i li lt. done c shown i li lt (ℕ_discrete i c.loop-k.k);
      left = λ shown i li le. rw (get_or-set_other c.loop-k.planes c.loop-k.k i c.add_to_line.new.line [] (λ e. omega arith)) (c.loop-k.invariant.left shown i li (omega arith));
    }
