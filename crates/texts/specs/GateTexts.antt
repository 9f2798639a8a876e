-- The line of a gate, and the lines of gates one after the other, with any names for the operators.
use Rattle.std.specs.Prelude.{ℕ, cond, List, [], ◌++◌, map, eqb}
use Rattle.ranges.specs.Ranges.{span}
use Rattle.gates.specs.declared.Gate.{Gate}
use Rattle.gates.specs.Gates.{control}
use Rattle.texts.specs.Texts.{ascii, decimal, joined}

-- a line as ` x` and its digit; a control as that with `=` and its value
unfoldable pub line_text : ℕ → List ℕ
line_text k = ascii " x" ++ decimal k

unfoldable pub control_text : Gate → ℕ → List ℕ
control_text g k = cond (eqb (control g k) 3) [] (line_text k ++ ascii "=" ++ decimal (control g k))

-- a gate's line: the operator, the target, and the controls in rising line order
unfoldable pub gate_text : (ℕ → List ℕ) → Gate → List ℕ
gate_text name g = name g.operator ++ line_text g.target ++ joined (span (control_text g) 0 6) ++ ascii "\n"

unfoldable pub gate_texts : (ℕ → List ℕ) → List Gate → List ℕ
gate_texts name gs = joined (map (gate_text name) gs)
