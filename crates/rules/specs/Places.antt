-- Which gates may change places.
use Rattle.std.specs.Prelude.{ℕ, Bool, not, ◌&&◌, ◌||◌, eqb}
use Rattle.gates.specs.declared.Gate.{Gate}
use Rattle.gates.specs.Gates.{control}

-- C1 and C2 are one type
unfoldable pub is_c : ℕ → Bool
is_c o = eqb o 1 || eqb o 2

unfoldable pub same_type : ℕ → ℕ → Bool
same_type a b = eqb a b || is_c a && is_c b

-- an operator upsets a control of value v on its target: C1 and C2 any, D all but 0, E all but 2, N all but 1
unfoldable pub upsets : ℕ → ℕ → Bool
upsets o v = is_c o || eqb o 4 && not (eqb v 0) || eqb o 5 && not (eqb v 2) || eqb o 3 && not (eqb v 1)

-- the target of g is a control of h, with a value that g's operator upsets
unfoldable pub blocks : Gate → Gate → Bool
blocks g h = not (eqb (control h g.target) 3) && upsets g.operator (control h g.target)

-- they have the same target and are not of one type
unfoldable pub clashes : Gate → Gate → Bool
clashes g h = eqb g.target h.target && not (same_type g.operator h.operator)

unfoldable pub may_change : Gate → Gate → Bool
may_change g h = not (clashes g h || blocks g h || blocks h g)
