-- The price of a gate and of a cascade, on a board with the global control value v and the fitted set s, and what the call answers.
use Rattle.std.specs.Prelude.{ℕ, zero, suc, ◌+◌, ◌*◌, cond, ◌||◌, List, [], ◌∷◌, eqb}
use Rattle.ranges.specs.Ranges.{sum}
use Rattle.ranges.specs.Lists.{total}
use Rattle.card.specs.Card.{Answer, Answer.accepted}
use Rattle.gates.specs.declared.Gate.{Gate}
use Rattle.gates.specs.Gates.{control, control_count}
use Rattle.cascades.specs.Cascades.{gates_of}
use Rattle.cascades.specs.Answers.{on_cascade}
use Rattle.boards.specs.Boards.{is_fitted, on_board}

-- the base price of k controls: 1, 1, 5, and from three on five more than twice the price with one fewer
unfoldable pub base : ℕ → ℕ
base zero = 1
base (suc zero) = 1
base (suc (suc zero)) = 5
base (suc (suc (suc k))) = 2 * base (suc (suc k)) + 5

-- how many controls of a gate have another value than v
unfoldable pub others : ℕ → Gate → ℕ
others v g = sum (λ k. cond (eqb (control g k) 3 || eqb (control g k) v) 0 1) 0 6

-- document 01's price, with all fitted: each control whose value is not v adds 2
unfoldable pub plain_price : ℕ → Gate → ℕ
plain_price v g = base (control_count g) + 2 * others v g

-- document 02's: a gate whose operator is not fitted costs 1 more
unfoldable pub gate_price : ℕ → ℕ → Gate → ℕ
gate_price v s g = plain_price v g + cond (is_fitted s g.operator) 0 1

-- a cascade costs the sum
unfoldable pub cascade_price : ℕ → ℕ → List Gate → ℕ
cascade_price v s gs = total (gate_price v s) gs

-- ---- the call

-- 1 10 13 6 7
unfoldable pub price_answer : ℕ → ℕ → ℕ → List ℕ → Answer
price_answer n v s b = on_board n v s (on_cascade n b (accepted (cascade_price v s (gates_of b) ∷ [])))
