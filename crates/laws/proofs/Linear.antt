-- Maps that are linear over the sum of polynomials. Two of them that agree at 1, x, x^2 .. agree everywhere:
-- so a formula made of shifts is tested at a handful of values and holds of all. Assumes nothing.
use mathlib.Core.Path.{◌≡◌, sym, ap, ap₂, ◌∙◌}
use mathlib.Core.Bool.{true}
use Prim.Native.Nat.{ℕ, zero, suc, ◌*◌, ◌/◌, ◌%◌, ◌^◌, ◌<◌}
use native.Mathlib.Nat.{add-zero, zero-mul, one-mul, mod-lt}
use borrow.Author.Tests.{eqb-true}
use lib.Arith.{lt-one}
use lib.Dec.{eqb}
use lib.Pow.{pow_pos, split}
use lib.Bits.{xor_block, xor_shifted, xor_shr, xor_mod, xor_self}
use Rattle.laws.specs.Poly.{◌⊕◌}
use Rattle.laws.specs.Below.{below}
use Rattle.laws.proofs.Cases.{and_left, and_right}
use Rattle.laws.proofs.Xor.{bit_cases, xor_4}
use Rattle.laws.proofs.Remainder.{top}

abbrev pub Linear : (ℕ → ℕ) → Type 0
Linear f = (a b : ℕ) → f (a ⊕ b) ≡ f a ⊕ f b

-- ---- what is linear: a shift up and down, the low bits, sums, and one after the other
pub linear_up : (k : ℕ) → Linear (λ p. p * 2 ^ k)
linear_up k a b =
    sym (add-zero ((a ⊕ b) * 2 ^ k)) ∙ sym (xor_block k a b 0 0 (pow_pos k) (pow_pos k))
    ∙ ap₂ ◌⊕◌ (add-zero (a * 2 ^ k)) (add-zero (b * 2 ^ k))

pub linear_down : (k : ℕ) → Linear (λ p. p / 2 ^ k)
linear_down k a b = xor_shr a b k

pub linear_low : (k : ℕ) → Linear (λ p. p % 2 ^ k)
linear_low k a b = xor_mod a b k

pub linear_sum : (f g : ℕ → ℕ) → Linear f → Linear g → Linear (λ p. f p ⊕ g p)
linear_sum f g lf lg a b = ap₂ ◌⊕◌ (lf a b) (lg a b) ∙ xor_4 (f a) (f b) (g a) (g b)

pub linear_then : (f g : ℕ → ℕ) → Linear f → Linear g → Linear (λ p. g (f p))
linear_then f g lf lg a b = ap g (lf a b) ∙ lg (f a) (f b)

-- a step of code: what is computed so far, shifted right, or left in a word of w bits
pub linear_right : (k : ℕ) (f : ℕ → ℕ) → Linear f → Linear (λ p. f p / 2 ^ k)
linear_right k f lf = linear_then f (λ x. x / 2 ^ k) lf (linear_down k)

pub linear_left : (w k : ℕ) (f : ℕ → ℕ) → Linear f → Linear (λ p. f p * 2 ^ k % 2 ^ w)
linear_left w k f lf =
    linear_then f (λ x. x * 2 ^ k % 2 ^ w) lf (linear_then (λ x. x * 2 ^ k) (λ x. x % 2 ^ w) (linear_up k) (linear_low w))

linear_zero : (f : ℕ → ℕ) → Linear f → f 0 ≡ 0
linear_zero f lf = lf 0 0 ∙ xor_self (f 0)

-- ---- the law
pub same_linear : (f g : ℕ → ℕ) → Linear f → Linear g → (n : ℕ) → below n (λ k. eqb (f (2 ^ k)) (g (2 ^ k))) ≡ true → (p : ℕ) → p < 2 ^ n → f p ≡ g p
unfolding below
same_linear f g lf lg zero t p h = ap f (lt-one h) ∙ linear_zero f lf ∙ sym (ap g (lt-one h) ∙ linear_zero g lg)
same_linear f g lf lg (suc n) t p h =
    apart f lf
    ∙ ap₂ ◌⊕◌
    (bit_cases (λ b. f (b * 2 ^ n) ≡ g (b * 2 ^ n)) (p / 2 ^ n) (top n 0 p h)
    (ap f (zero-mul (2 ^ n)) ∙ linear_zero f lf ∙ sym (ap g (zero-mul (2 ^ n)) ∙ linear_zero g lg))
    (ap f (one-mul (2 ^ n)) ∙ eqb-true (f (2 ^ n)) (g (2 ^ n)) (and_left (eqb (f (2 ^ n)) (g (2 ^ n))) (below n (λ k. eqb (f (2 ^ k)) (g (2 ^ k)))) t) ∙ ap g (sym (one-mul (2 ^ n)))))
    (same_linear f g lf lg n (and_right (eqb (f (2 ^ n)) (g (2 ^ n))) (below n (λ k. eqb (f (2 ^ k)) (g (2 ^ k)))) t) (p % 2 ^ n) (mod-lt p (pow_pos n)))
    ∙ sym (apart g lg)
  where
    -- the top coefficient and the rest
    apart : (f : ℕ → ℕ) → Linear f → f p ≡ f (p / 2 ^ n * 2 ^ n) ⊕ f (p % 2 ^ n)
    apart f lf = ap f (sym (split p n) ∙ sym (xor_shifted (p / 2 ^ n) n (p % 2 ^ n) (mod-lt p (pow_pos n)))) ∙ lf (p / 2 ^ n * 2 ^ n) (p % 2 ^ n)
