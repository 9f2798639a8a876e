-- The reversed list of the gates' inverses undoes the list, from either side, and is a cascade itself. Assumes nothing.
use Rattle.std.proofs.Common.{◌≡◌, refl, ◌∙◌, List, [], ◌∷◌, ◌++◌, map, ℕ, arith, length}
use Rattle.std.proofs.lemmas.List.{length-reverse, length-map, reverse-append}
use Rattle.ranges.specs.Lists.{Each, through}
use Rattle.ranges.proofs.Lists.{through_nil, through_cons, each_map, each_reverse}
use Rattle.gates.specs.declared.Gate.{Gate}
use Rattle.gates.specs.Gates.{applied, inverse, IsGate}
use Rattle.gates.proofs.Gates.{applied_inverse, inverse_gate, inverse_inverse}
use Rattle.cascades.specs.Cascades.{ran, undoing, Cascade}
use Rattle.cascades.proofs.Cascades.{run_append}

undoing_cons : (g : Gate) (gs : List Gate) → undoing (g ∷ gs) ≡ undoing gs ++ (inverse g ∷ [])
unfolding undoing
undoing_cons g gs = reverse-append (inverse g ∷ []) (map inverse gs)

run_one : (g : Gate) (p : ℕ) → ran (g ∷ []) p ≡ applied g p
run_one g p = through_cons applied g [] p ∙ through_nil applied (applied g p)

-- the inverse after the list
pub undone : (n : ℕ) (gs : List Gate) (p : ℕ) → Each (IsGate n) gs → ran (undoing gs) (ran gs p) ≡ p
undone n [] p each = unfold undoing through in refl
undone n (g ∷ gs) p each =
    rw (undoing_cons, run_append (undoing gs) (inverse g ∷ []), through_cons applied g gs p, undone n gs (applied g p) each.1, run_one)
    (applied_inverse n g p each.0)

-- the list after the inverse
pub undone_again : (n : ℕ) (gs : List Gate) (p : ℕ) → Each (IsGate n) gs → ran gs (ran (undoing gs) p) ≡ p
undone_again n [] p each = unfold undoing through in refl
undone_again n (g ∷ gs) p each =
    let q : ℕ = ran (undoing gs) p in
    let back : applied g (applied (inverse g) (ran (undoing gs) p)) ≡ ran (undoing gs) p =
    rw (inverse_inverse n g each.0) at (applied_inverse n (inverse g) (ran (undoing gs) p) (inverse_gate n g each.0)) in
    rw (undoing_cons, run_append (undoing gs) (inverse g ∷ []), run_one, through_cons applied g gs, back) (undone_again n gs p each.1)

pub length_undoing : (gs : List Gate) → length (undoing gs) ≡ length gs
unfolding undoing
length_undoing gs = length-reverse (map inverse gs) ∙ length-map gs inverse

pub undoing_cascade : (n : ℕ) (gs : List Gate) → Cascade n gs → Cascade n (undoing gs)
unfolding undoing
undoing_cascade n gs c =
    record {
      gates = each_reverse (IsGate n) (map inverse gs) (each_map (IsGate n) (IsGate n) inverse (inverse_gate n) gs c.gates);
      most = omega (arith, length-reverse (map inverse gs), length-map gs inverse, c.most);
    }
