-- `receiver::places::marks`: what its goals need: each of its ten sums slides along the number, and agrees at each power of x with a sum of bits
-- of the remainder that is 1 at A's offset word. Assumes nothing.
use mathlib.Core.Path.{refl}
use mathlib.Core.List.{[], ◌∷◌}
use Prim.Native.Nat.{ℕ, ◌/◌, ◌^◌}
use Rattle.laws.specs.Poly.{◌⊕◌, reduce, remainder}
use Rattle.laws.specs.Below.{below}
use Rattle.block.specs.Block.{syndrome}
use Rattle.receiver.proofs.Sums.{both, Slides, itself, right, plus, taps, OddAtA, odd_at_a}
use borrow.Author.Rules.{rules}
use Rattle.receiver.proofs.places.marks.Goals as goal

-- what the code shifts: the number, and the sums that the ten share
u : (k : ℕ) → Slides (λ p. p / 2 ^ k)
u k = right k itself

e : ℕ → ℕ
e p = p ⊕ p / 2 ^ 1

t : ℕ → ℕ
t p = (((e p ⊕ p / 2 ^ 2) ⊕ p / 2 ^ 7) ⊕ p / 2 ^ 11) ⊕ p / 2 ^ 16

v : ℕ → ℕ
v p = t p ⊕ p / 2 ^ 19

w : ℕ → ℕ
w p = v p ⊕ p / 2 ^ 21

z : ℕ → ℕ
z p = (t p / 2 ^ 10 ⊕ e p) ⊕ p / 2 ^ 26

slides_e : Slides e
unfolding e
slides_e = plus itself (u 1)

slides_t : Slides t
unfolding t
slides_t = plus (plus (plus (plus slides_e (u 2)) (u 7)) (u 11)) (u 16)

slides_v : Slides v
unfolding v
slides_v = plus slides_t (u 19)

slides_w : Slides w
unfolding w
slides_w = plus slides_v (u 21)

slides_z : Slides z
unfolding z
slides_z = plus (plus (right 10 slides_t) slides_e) (u 26)

-- the ten sums, in the order of the code
sum_1 : OddAtA (λ p. t p / 2 ^ 7)
unfolding e t below taps syndrome remainder reduce
sum_1 = odd_at_a (right 7 slides_t) (7 ∷ 8 ∷ 9 ∷ []) refl refl

sum_2 : OddAtA (λ p. t p / 2 ^ 7 ⊕ t p / 2 ^ 8)
unfolding e t below taps syndrome remainder reduce
sum_2 = odd_at_a (plus (right 7 slides_t) (right 8 slides_t)) (7 ∷ []) refl refl

sum_3 : OddAtA (λ p. v p / 2 ^ 5)
unfolding e t v below taps syndrome remainder reduce
sum_3 = odd_at_a (right 5 slides_v) (5 ∷ 6 ∷ 7 ∷ []) refl refl

sum_4 : OddAtA (λ p. w p / 2 ^ 2)
unfolding e t v w below taps syndrome remainder reduce
sum_4 = odd_at_a (right 2 slides_w) (2 ∷ 3 ∷ 4 ∷ 9 ∷ []) refl refl

sum_5 : OddAtA (λ p. w p / 2 ^ 3)
unfolding e t v w below taps syndrome remainder reduce
sum_5 = odd_at_a (right 3 slides_w) (3 ∷ 4 ∷ 5 ∷ []) refl refl

sum_6 : OddAtA (λ p. w p / 2 ^ 4)
unfolding e t v w below taps syndrome remainder reduce
sum_6 = odd_at_a (right 4 slides_w) (4 ∷ 5 ∷ 6 ∷ []) refl refl

sum_7 : OddAtA (λ p. v p / 2 ^ 4 ⊕ t p / 2 ^ 6)
unfolding e t v below taps syndrome remainder reduce
sum_7 = odd_at_a (plus (right 4 slides_v) (right 6 slides_t)) (4 ∷ 5 ∷ 7 ∷ 8 ∷ []) refl refl

sum_8 : OddAtA (λ p. (t p / 2 ^ 7 ⊕ t p / 2 ^ 9) ⊕ p)
unfolding e t below taps syndrome remainder reduce
sum_8 = odd_at_a (plus (plus (right 7 slides_t) (right 9 slides_t)) itself) (0 ∷ 7 ∷ 8 ∷ []) refl refl

sum_9 : OddAtA (λ p. t p / 2 ^ 7 ⊕ z p)
unfolding e t z below taps syndrome remainder reduce
sum_9 = odd_at_a (plus (right 7 slides_t) slides_z) (0 ∷ 1 ∷ 7 ∷ 8 ∷ 9 ∷ []) refl refl

sum_10 : OddAtA (λ p. z p / 2 ^ 1)
unfolding e t z below taps syndrome remainder reduce
sum_10 = odd_at_a (right 1 slides_z) (1 ∷ 2 ∷ []) refl refl

pub returns : goal.returns
unfolding e t v w z
returns c j v' =
    let ten = both (both (both (both sum_1 sum_2) sum_3) (both (both sum_4 sum_5) sum_6)) (both (both (both sum_7 sum_8) sum_9) sum_10) in
    ten.odd c.args.u j (search rules) v'
