-- What the cascade of a permutation is worth: it computes the table (`synthesized_computes`), each of its gates is one on n lines
-- (`synthesized_cascade`), reversed and inverted it computes the inverse table (`synthesized_undone`), and it has no more gates than the bound
-- (`synthesized_bound`). These are the procedure's theorems for the ternary family. Assumes nothing.
use Rattle.std.proofs.Common.{◌≡◌, sym, ap, ◌∙◌, List, ℕ, zero, suc, ◌+◌, ◌-◌, ◌*◌, ◌/◌, ◌^◌, ◌≤◌, ◌<◌, suc-mul, mul-le-mul, arith, length, get_or}
use Rattle.std.proofs.Math.Nat.{pow-le-pow_right}
use Rattle.ranges.specs.Lists.{Each}
use Rattle.ranges.proofs.Lists.{each_imp}
use Rattle.digits.proofs.Sizes.{three_pos}
use Rattle.gates.specs.declared.Gate.{Gate}
use Rattle.gates.specs.Gates.{applied, IsGate}
use Rattle.tables.specs.Permutations.{Permutation, inverse_table}
use Rattle.procedure.proofs.Families.{Made}
use Rattle.procedure.proofs.Settles.{computes, gates_made}
use Rattle.procedure.proofs.GateBounds.{enough}
use Rattle.procedure.proofs.InverseTables.{inverse_within, entry_inverse}
use Rattle.cascades.specs.Cascades.{ran, undoing, Cascade}
use Rattle.cascades.proofs.Undone.{undone}
use Rattle.synthesis.specs.Synthesis.{gate_for, synthesized, bound}
use Rattle.synthesis.proofs.Controls.{is_gate}
use Rattle.synthesis.proofs.Ternary.{ternary}

-- the bound grows with the lines: 4,010 records on six
bound_grows : (n m : ℕ) → n ≤ suc m → bound n ≤ bound (suc m)
unfolding bound
bound_grows zero m le = omega arith
bound_grows (suc k) m le =
    rw (suc-mul k (3 ^ suc k), suc-mul m (3 ^ suc m))
    (numbers (k * 3 ^ suc k) (m * 3 ^ suc m) (3 ^ suc k) (3 ^ suc m) (mul-le-mul {n₁ = k} {m₁ = 3 ^ suc k} {n₂ = m} {m₂ = 3 ^ suc m} (omega arith) wider) wider)
  where
    wider : 3 ^ suc k ≤ 3 ^ suc m
    wider = pow-le-pow_right {n = 3} (omega arith) {i = suc k} {j = suc m} le

    numbers : (x y P Q : ℕ) → x ≤ y → P ≤ Q → x + P - (P - 1) / 2 ≤ y + Q - (Q - 1) / 2
    numbers x y P Q h l = omega arith

pub bound_most : (n : ℕ) → n ≤ 6 → bound n ≤ 4010
unfolding bound
bound_most n le = bound_grows n 5 le

module _ (n : ℕ) (t : List ℕ) (lines : n ≤ 6) (perm : Permutation (3 ^ n) t) where
  pub synthesized_computes : (p : ℕ) → p < 3 ^ n → ran (synthesized n t) p ≡ get_or t p 0
  unfolding synthesized
  synthesized_computes p lp = computes 3 three_pos applied gate_for n (ternary n lines) t perm p lp

  pub synthesized_bound : length (synthesized n t) ≤ bound n
  unfolding synthesized bound
  synthesized_bound = enough 2 applied gate_for n (ternary n lines) t perm (omega arith)

  made_gate : (g : Gate) → Made 3 applied gate_for n g → IsGate n g
  made_gate g m = rw m.is (is_gate n m.k m.a m.d lines m.change.line)

  pub synthesized_gates : Each (IsGate n) (synthesized n t)
  unfolding synthesized
  synthesized_gates = each_imp (Made 3 applied gate_for n) (IsGate n) made_gate (synthesized n t) (gates_made 3 three_pos applied gate_for n (ternary n lines) t perm)

  pub synthesized_cascade : Cascade n (synthesized n t)
  synthesized_cascade = record { gates = synthesized_gates; most = omega (arith, synthesized_bound, bound_most n lines) }

  -- taken back: from an entry to its row, and so from any pattern to the inverse table's entry
  pub synthesized_undone : (p : ℕ) → p < 3 ^ n → ran (undoing (synthesized n t)) (get_or t p 0) ≡ p
  synthesized_undone p lp =
      ap (ran (undoing (synthesized n t))) (sym (synthesized_computes p lp)) ∙ undone n (synthesized n t) p synthesized_gates

  pub synthesized_inverse : (q : ℕ) → q < 3 ^ n → ran (undoing (synthesized n t)) q ≡ get_or (inverse_table (3 ^ n) t) q 0
  synthesized_inverse q lq =
      ap (ran (undoing (synthesized n t))) (sym (entry_inverse 3 n t three_pos perm q lq))
      ∙ synthesized_undone (get_or (inverse_table (3 ^ n) t) q 0) (inverse_within 3 n t three_pos perm q lq)
