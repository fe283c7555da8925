-- `block::remainder_of`: what its goals need: its steps and the remainder are both linear, and agree at each of the sixteen powers of x.
-- Assumes nothing.
use mathlib.Core.Path.{◌≡◌, refl}
use Prim.Native.Nat.{ℕ, ◌*◌, ◌/◌, ◌%◌, ◌^◌, ◌<◌}
use borrow.Author.Rules.{rules}
use Rattle.laws.specs.Poly.{◌⊕◌, reduce, remainder}
use Rattle.laws.specs.Below.{below}
use Rattle.laws.proofs.Remainder.{remainder_xor}
use Rattle.laws.proofs.Linear.{Linear, linear_up, linear_down, linear_low, linear_sum, linear_then, linear_right, linear_left, same_linear}
use Rattle.block.specs.Block.{generator, syndrome}
use Rattle.block.proofs.remainder_of.Goals as goal

-- the steps of the code
h : ℕ → ℕ
h p = p / 2 ^ 2

u : ℕ → ℕ
u p = h p ⊕ h p / 2 ^ 1

a : ℕ → ℕ
a p = (u p ⊕ u p / 2 ^ 2) ⊕ h p / 2 ^ 4

q : ℕ → ℕ
q p = (p ⊕ a p) ⊕ a p / 2 ^ 9

w : ℕ → ℕ
w p = q p ⊕ q p * 2 ^ 1 % 2 ^ 32

r : ℕ → ℕ
r p = (((q p ⊕ w p * 2 ^ 3 % 2 ^ 32) ⊕ q p * 2 ^ 5 % 2 ^ 32) ⊕ w p * 2 ^ 7 % 2 ^ 32) % 2 ^ 10

-- each is linear
linear_u : Linear u
unfolding u h
linear_u = linear_sum h (λ p. h p / 2 ^ 1) (linear_down 2) (linear_right 1 h (linear_down 2))

linear_a : Linear a
unfolding a h
linear_a =
    linear_sum (λ p. u p ⊕ u p / 2 ^ 2) (λ p. h p / 2 ^ 4) (linear_sum u (λ p. u p / 2 ^ 2) linear_u (linear_right 2 u linear_u)) (linear_right 4 h (linear_down 2))

linear_q : Linear q
unfolding q
linear_q = linear_sum (λ p. p ⊕ a p) (λ p. a p / 2 ^ 9) (linear_sum (λ p. p) a (λ x y. refl) linear_a) (linear_right 9 a linear_a)

linear_w : Linear w
unfolding w
linear_w = linear_sum q (λ p. q p * 2 ^ 1 % 2 ^ 32) linear_q (linear_left 32 1 q linear_q)

linear_r : Linear r
unfolding r
linear_r =
    linear_then (λ p. ((q p ⊕ w p * 2 ^ 3 % 2 ^ 32) ⊕ q p * 2 ^ 5 % 2 ^ 32) ⊕ w p * 2 ^ 7 % 2 ^ 32) (λ x. x % 2 ^ 10)
    (linear_sum (λ p. (q p ⊕ w p * 2 ^ 3 % 2 ^ 32) ⊕ q p * 2 ^ 5 % 2 ^ 32) (λ p. w p * 2 ^ 7 % 2 ^ 32)
    (linear_sum (λ p. q p ⊕ w p * 2 ^ 3 % 2 ^ 32) (λ p. q p * 2 ^ 5 % 2 ^ 32)
    (linear_sum q (λ p. w p * 2 ^ 3 % 2 ^ 32) linear_q (linear_left 32 3 w linear_w))
    (linear_left 32 5 q linear_q))
    (linear_left 32 7 w linear_w))
    (linear_low 10)

-- so is the remainder
linear_syndrome : Linear (λ p. syndrome (p * 2 ^ 10))
unfolding syndrome
linear_syndrome = linear_then (λ p. p * 2 ^ 10) (remainder 10 generator 26) (linear_up 10) (remainder_xor 10 generator refl 26)

steps_are : (info : ℕ) → info < 2 ^ 16 → r info ≡ syndrome (info * 2 ^ 10)
unfolding below r w q a u h syndrome remainder reduce
steps_are = same_linear r (λ p. syndrome (p * 2 ^ 10)) linear_r linear_syndrome 16 refl

pub returns : goal.returns
unfolding r w q a u h
returns c = steps_are c.args.info (search rules)
