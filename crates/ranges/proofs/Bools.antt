-- What a Boolean that is a conjunction, a choice or a negation says, and how large a number is that it chooses. Assumes nothing.
use mathlib.Core.Path.{◌≡◌, refl, ap₂}
use mathlib.Core.Logic.{◌⊎◌}
use mathlib.Core.Bool.{Bool, true, false, cond, ◌&&◌, ◌||◌, true≢false, false≢true}
use Prim.Native.Nat.{ℕ, ◌≤◌, ◌<◌}
use native.Mathlib.Omega.{arith}

pub and_left : (a b : Bool) → (a && b) ≡ true → a ≡ true
and_left true b e = refl
and_left false b e = e

pub and_right : (a b : Bool) → (a && b) ≡ true → b ≡ true
and_right true b e = e
and_right false b e = absurd (false≢true e)

pub and_both : (a b : Bool) → a ≡ true → b ≡ true → (a && b) ≡ true
and_both a b p q = ap₂ (λ (x y : Bool). x && y) p q

-- neither of the two holds
pub or_left : (a b : Bool) → (a || b) ≡ false → a ≡ false
or_left true b e = e
or_left false b e = refl

pub or_right : (a b : Bool) → (a || b) ≡ false → b ≡ false
or_right true b e = absurd (true≢false e)
or_right false b e = e

-- a test is true or false, with the equation
pub decide : (b : Bool) → (b ≡ true) ⊎ (b ≡ false)
decide true = ◌⊎◌.inl refl
decide false = ◌⊎◌.inr refl

-- a test is not both
pub clash : {A : Type 0} (b : Bool) → b ≡ true → b ≡ false → A
clash true p q = absurd (true≢false q)
clash false p q = absurd (false≢true p)

-- one of two numbers is below what both are below
pub cond_lt : (b : Bool) {x y n : ℕ} → x < n → y < n → cond b x y < n
cond_lt true lx ly = lx
cond_lt false lx ly = ly

-- what is counted or not is 1 at most
pub one_at_most : (b : Bool) → cond b 0 1 ≤ 1
one_at_most true = omega arith
one_at_most false = omega arith
