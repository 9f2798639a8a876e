-- A finite fact on three numbers by one computed test: where the test passes on all below the bounds it passes at each. Assumes nothing.
use mathlib.Core.Path.{◌≡◌, refl}
use mathlib.Core.Bool.{Bool, true, false, cond, beq, true≢false, false≢true}
use Prim.Native.Nat.{ℕ, ◌<◌}
use Rattle.ranges.specs.Ranges.{every}
use Rattle.ranges.proofs.Tests.{every_below}

pub triple_at : (f : ℕ → ℕ → ℕ → Bool) (a b c : ℕ) → every (λ x. every (λ y. every (λ z. f x y z) 0 c) 0 b) 0 a ≡ true
    → (x y z : ℕ) → x < a → y < b → z < c → f x y z ≡ true
triple_at f a b c e x y z lx ly lz =
    every_below (λ z. f x y z) c
    (every_below (λ y. every (λ z. f x y z) 0 c) b (every_below (λ x. every (λ y. every (λ z. f x y z) 0 c) 0 b) a e x lx) y ly) z lz

-- a test of the form: where a holds, so does b; and one that two tests agree
pub if_so : (a b : Bool) → cond a b true ≡ true → a ≡ true → b ≡ true
if_so true b e t = e
if_so false b e t = absurd (false≢true t)

pub if_not : (a b : Bool) → cond a true b ≡ true → a ≡ false → b ≡ true
if_not true b e t = absurd (true≢false t)
if_not false b e t = e

pub beq_same : (a b : Bool) → beq a b ≡ true → a ≡ b
beq_same true true e = refl
beq_same true false e = absurd (false≢true e)
beq_same false true e = absurd (false≢true e)
beq_same false false e = refl
