-- `receiver::searching::remainders`: what its goals need: its steps and the two remainders are both linear, and agree at each of the 52 powers of x.
-- Assumes nothing.
use mathlib.Core.Path.{◌≡◌, refl, ◌∙◌}
use Prim.Native.Nat.{ℕ, ◌*◌, ◌/◌, ◌%◌, ◌^◌, ◌<◌}
use lib.Bits.{bit_and}
use Rattle.laws.specs.Poly.{◌⊕◌, reduce, remainder}
use Rattle.laws.specs.Below.{below}
use Rattle.laws.proofs.Linear.{Linear, linear_sum, linear_right, linear_left, same_linear}
use Rattle.block.specs.Block.{syndrome}
use Rattle.receiver.proofs.Pairs.{linear_mask, both_leave, both_leave_lem, linear_both}
use Rattle.receiver.proofs.searching.remainders.Goals as goal

-- the steps of the code
p : ℕ → ℕ
p n = bit_and n 0xF_FFF0_03FF_FC00

h : ℕ → ℕ
h n = p n / 2 ^ 2

u : ℕ → ℕ
u n = h n ⊕ h n / 2 ^ 1

a : ℕ → ℕ
a n = (u n ⊕ u n / 2 ^ 2) ⊕ h n / 2 ^ 4

q : ℕ → ℕ
q n = bit_and ((p n ⊕ a n) ⊕ a n / 2 ^ 9) 0x3FF0_000F_FC00

w : ℕ → ℕ
w n = q n ⊕ q n * 2 ^ 1 % 2 ^ 64

r : ℕ → ℕ
r n = ((q n ⊕ w n * 2 ^ 3 % 2 ^ 64) ⊕ q n * 2 ^ 5 % 2 ^ 64) ⊕ w n * 2 ^ 7 % 2 ^ 64

steps : ℕ → ℕ
steps n = bit_and (r n / 2 ^ 10 ⊕ n) 0xF_FC00_03FF

-- each is linear
itself : Linear (λ n. n)
itself x y = refl

linear_p : Linear p
unfolding p
linear_p = linear_mask 0xF_FFF0_03FF_FC00 (λ n. n) itself

linear_h : Linear h
unfolding h
linear_h = linear_right 2 p linear_p

linear_u : Linear u
unfolding u
linear_u = linear_sum h (λ n. h n / 2 ^ 1) linear_h (linear_right 1 h linear_h)

linear_a : Linear a
unfolding a
linear_a =
    linear_sum (λ n. u n ⊕ u n / 2 ^ 2) (λ n. h n / 2 ^ 4) (linear_sum u (λ n. u n / 2 ^ 2) linear_u (linear_right 2 u linear_u)) (linear_right 4 h linear_h)

linear_q : Linear q
unfolding q
linear_q =
    linear_mask 0x3FF0_000F_FC00 (λ n. (p n ⊕ a n) ⊕ a n / 2 ^ 9) (linear_sum (λ n. p n ⊕ a n) (λ n. a n / 2 ^ 9) (linear_sum p a linear_p linear_a) (linear_right 9 a linear_a))

linear_w : Linear w
unfolding w
linear_w = linear_sum q (λ n. q n * 2 ^ 1 % 2 ^ 64) linear_q (linear_left 64 1 q linear_q)

linear_r : Linear r
unfolding r
linear_r =
    linear_sum (λ n. (q n ⊕ w n * 2 ^ 3 % 2 ^ 64) ⊕ q n * 2 ^ 5 % 2 ^ 64) (λ n. w n * 2 ^ 7 % 2 ^ 64)
    (linear_sum (λ n. q n ⊕ w n * 2 ^ 3 % 2 ^ 64) (λ n. q n * 2 ^ 5 % 2 ^ 64)
    (linear_sum q (λ n. w n * 2 ^ 3 % 2 ^ 64) linear_q (linear_left 64 3 w linear_w))
    (linear_left 64 5 q linear_q))
    (linear_left 64 7 w linear_w)

linear_steps : Linear steps
unfolding steps
linear_steps = linear_mask 0xF_FC00_03FF (λ n. r n / 2 ^ 10 ⊕ n) (linear_sum (λ n. r n / 2 ^ 10) (λ n. n) (linear_right 10 r linear_r) itself)

steps_are : (n : ℕ) → n < 2 ^ 52 → steps n ≡ both_leave n
unfolding below steps r w q a u h p both_leave syndrome remainder reduce
steps_are = same_linear steps both_leave linear_steps linear_both 52 refl

pub returns : goal.returns
unfolding steps r w q a u h p
returns c = steps_are c.args.blocks c.requires ∙ both_leave_lem c.args.blocks
