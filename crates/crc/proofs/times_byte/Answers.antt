-- `crc::times_byte`: what its goals need: its steps and the remainder are both linear, and agree at each of the sixteen powers of x.
-- Assumes nothing.
use mathlib.Core.Path.{◌≡◌, refl}
use Prim.Native.Nat.{ℕ, ◌*◌, ◌/◌, ◌%◌, ◌^◌, ◌<◌}
use borrow.Author.Rules.{rules}
use Rattle.laws.specs.Poly.{◌⊕◌, reduce, remainder}
use Rattle.laws.specs.Below.{below}
use Rattle.laws.proofs.Remainder.{remainder_xor}
use Rattle.laws.proofs.Linear.{Linear, linear_up, linear_down, linear_sum, linear_then, linear_right, linear_left, same_linear}
use Rattle.crc.specs.Crc16.{generator, times_byte}
use Rattle.crc.proofs.times_byte.Goals as goal

-- the steps of the code
x : ℕ → ℕ
x p = p / 2 ^ 8

y : ℕ → ℕ
y p = x p ⊕ x p / 2 ^ 4

r : ℕ → ℕ
r p = ((p * 2 ^ 8 % 2 ^ 16 ⊕ y p * 2 ^ 12 % 2 ^ 16) ⊕ y p * 2 ^ 5 % 2 ^ 16) ⊕ y p

-- each is linear
linear_y : Linear y
unfolding y x
linear_y = linear_sum x (λ p. x p / 2 ^ 4) (linear_down 8) (linear_right 4 x (linear_down 8))

linear_r : Linear r
unfolding r
linear_r =
    linear_sum (λ p. (p * 2 ^ 8 % 2 ^ 16 ⊕ y p * 2 ^ 12 % 2 ^ 16) ⊕ y p * 2 ^ 5 % 2 ^ 16) y
    (linear_sum (λ p. p * 2 ^ 8 % 2 ^ 16 ⊕ y p * 2 ^ 12 % 2 ^ 16) (λ p. y p * 2 ^ 5 % 2 ^ 16)
    (linear_sum (λ p. p * 2 ^ 8 % 2 ^ 16) (λ p. y p * 2 ^ 12 % 2 ^ 16) (linear_left 16 8 (λ p. p) (λ a b. refl)) (linear_left 16 12 y linear_y))
    (linear_left 16 5 y linear_y))
    linear_y

linear_times : Linear times_byte
unfolding times_byte
linear_times = linear_then (λ p. p * 2 ^ 8) (remainder 16 generator 24) (linear_up 8) (remainder_xor 16 generator refl 24)

steps_are : (p : ℕ) → p < 2 ^ 16 → r p ≡ times_byte p
unfolding below r y x times_byte remainder reduce
steps_are = same_linear r times_byte linear_r linear_times 16 refl

pub returns : goal.returns
unfolding r y x
returns c = steps_are c.args.register (search rules)
