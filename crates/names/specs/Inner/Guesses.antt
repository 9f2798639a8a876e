-- The one gate whose line a line can be, read off fixed places: 43 is +, 48 to 53 are 0 to 5.
use Rattle.std.specs.Prelude.{ℕ, zero, suc, ◌+◌, ◌%◌, Bool, cond, List, eqb, get_or}
use Rattle.digits.specs.Digits.{pack}
use Rattle.gates.specs.declared.Gate.{Gate}

unfoldable pub operator_in : List ℕ → ℕ
operator_in l = cond (eqb (get_or l 0 0) 43) (get_or l 1 0 % 4) (cond (eqb (get_or l 0 0) 49) 4 (cond (eqb (get_or l 1 0) 50) 3 5))

-- a control on line k stands at place e, by its digit
unfoldable pub stands : List ℕ → ℕ → ℕ → Bool
stands l e k = eqb (get_or l (e + 2) 0) (48 + k)

-- the place behind the controls on the lines below k
unfoldable pub behind_controls : List ℕ → ℕ → ℕ
behind_controls l zero = 5
behind_controls l (suc k) = cond (stands l (behind_controls l k) k) (behind_controls l k + 5) (behind_controls l k)

unfoldable pub control_in : List ℕ → ℕ → ℕ
control_in l k = cond (stands l (behind_controls l k) k) (get_or l (behind_controls l k + 4) 0 % 4) 3

unfoldable pub guessed : List ℕ → Gate
guessed l = record { operator = operator_in l; target = get_or l 4 0 % 8; controls = pack 4 (control_in l) 6 }
