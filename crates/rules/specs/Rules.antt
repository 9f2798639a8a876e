-- The three rules on a pair of gates g, h with equal target and equal set of control lines.
use Rattle.std.specs.Prelude.{ℕ, ◌-◌, Bool, cond, not, ◌&&◌, ◌||◌, eqb}
use Rattle.std.specs.Bool.{beq}
use Rattle.ranges.specs.Ranges.{every, sum, first}
use Rattle.digits.specs.Digits.{put}
use Rattle.gates.specs.declared.Gate.{Gate}
use Rattle.gates.specs.Gates.{control, inverse_op, inverse}
use Rattle.rules.specs.Places.{is_c}

-- equal target and equal set of control lines
unfoldable pub same_lines : Gate → Gate → Bool
same_lines g h = eqb g.target h.target && every (λ k. beq (eqb (control g k) 3) (eqb (control h k) 3)) 0 6

-- the controls on line k differ; on how many lines they do; the first of these
unfoldable pub differ_at : Gate → Gate → ℕ → Bool
differ_at g h k = not (eqb (control g k) (control h k))

unfoldable pub differences : Gate → Gate → ℕ
differences g h = sum (λ k. cond (differ_at g h k) 1 0) 0 6

unfoldable pub line_of : Gate → Gate → ℕ
line_of g h = first (differ_at g h) 0 6

-- equal control values, and the operators invert each other
unfoldable pub cancels : Gate → Gate → Bool
cancels g h = same_lines g h && eqb (differences g h) 0 && eqb h.operator (inverse_op g.operator)

-- equal control values, both C1 or both C2
unfoldable pub merges : Gate → Gate → Bool
merges g h = same_lines g h && eqb (differences g h) 0 && is_c g.operator && eqb g.operator h.operator

-- exactly the same operator, control values equal but on one line
unfoldable pub reduces : Gate → Gate → Bool
reduces g h = same_lines g h && eqb (differences g h) 1 && eqb g.operator h.operator

unfoldable pub fits : Gate → Gate → Bool
fits g h = cancels g h || merges g h || reduces g h

-- g with the control v on line k
unfoldable pub with_control : Gate → ℕ → ℕ → Gate
with_control g k v = record { operator = g.operator; target = g.target; controls = put 4 k g.controls v }

-- what control reduction makes of gate i: it loses the line
unfoldable pub loosened : Gate → Gate → Gate
loosened g h = with_control g (line_of g h) 3

-- and of gate j: the third value there, and the inverse operator
unfoldable pub retuned : Gate → Gate → Gate
retuned g h = inverse (with_control h (line_of g h) (3 - control g (line_of g h) - control h (line_of g h)))
