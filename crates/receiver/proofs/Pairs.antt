-- Two blocks side by side: what both leave on division as one number, and when they are those of two letters. Assumes nothing.
use mathlib.Core.Path.{◌≡◌, refl, sym, ap, ap₂, ◌∙◌}
use mathlib.Core.Bool.{Bool, true, false, true≢false, ◌&&◌}
use Prim.Native.Nat.{ℕ, ◌+◌, ◌*◌, ◌/◌, ◌%◌, ◌^◌, ◌<◌}
use native.Mathlib.Nat.{mod-lt, zero-lt-suc}
use native.Mathlib.Omega.{arith}
use borrow.Author.Tests.{eq-eqb, eqb-true}
use lib.Arith.{bin_ind}
use lib.Bits.{bit_and, and_shr, and_mod, xor_shr, xor_mod, xor_shifted}
use lib.Dec.{eqb}
use lib.Pow.{split}
use Rattle.laws.specs.Poly.{◌⊕◌}
use Rattle.laws.proofs.Cases.{and_yes, and_no}
use Rattle.laws.proofs.Elements.{by_test}
use Rattle.laws.proofs.Linear.{Linear, linear_up, linear_down, linear_low, linear_sum, linear_then}
use Rattle.laws.proofs.Remainder.{remainder_lt}
use Rattle.laws.proofs.Xor.{bit_cases}
use Rattle.block.specs.declared.Letter.{Letter}
use Rattle.block.specs.declared.Letter.TheVariants.{A, B, C, D}
use Rattle.block.specs.Block.{generator, offset_of, syndrome, is_valid}
use Rattle.block.proofs.Validity.{syndrome_xor, valid_remainder, remainder_valid}

-- ---- a mask is linear
mask_bit : (x y z : ℕ) → x < 2 → y < 2 → z < 2 → bit_and (x ⊕ y) z ≡ bit_and x z ⊕ bit_and y z
mask_bit x y z hx hy hz =
    bit_cases (λ a. bit_and (a ⊕ y) z ≡ bit_and a z ⊕ bit_and y z) x hx refl
    (bit_cases (λ b. bit_and (1 ⊕ b) z ≡ bit_and 1 z ⊕ bit_and b z) y hy
    (bit_cases (λ m. bit_and (1 ⊕ 0) m ≡ bit_and 1 m ⊕ bit_and 0 m) z hz refl refl)
    (bit_cases (λ m. bit_and (1 ⊕ 1) m ≡ bit_and 1 m ⊕ bit_and 1 m) z hz refl refl))

mask_sum : (a b m : ℕ) → bit_and (a ⊕ b) m ≡ bit_and a m ⊕ bit_and b m
mask_sum a =
    bin_ind (λ (n : ℕ). (b m : ℕ) → bit_and (n ⊕ b) m ≡ bit_and n m ⊕ bit_and b m) (λ b m. refl)
    (λ n ih b m.
    sym (split (bit_and (n ⊕ b) m) 1)
    ∙ ap₂ (λ (x y : ℕ). x * 2 ^ 1 + y)
    (and_shr (n ⊕ b) m 1 ∙ ap (λ (x : ℕ). bit_and x (m / 2 ^ 1)) (xor_shr n b 1) ∙ ih (b / 2) (m / 2)
    ∙ sym (xor_shr (bit_and n m) (bit_and b m) 1 ∙ ap₂ ◌⊕◌ (and_shr n m 1) (and_shr b m 1)))
    (and_mod (n ⊕ b) m 1 ∙ ap (λ (x : ℕ). bit_and x (m % 2 ^ 1)) (xor_mod n b 1)
    ∙ mask_bit (n % 2) (b % 2) (m % 2) (mod-lt n (zero-lt-suc 1)) (mod-lt b (zero-lt-suc 1)) (mod-lt m (zero-lt-suc 1))
    ∙ sym (xor_mod (bit_and n m) (bit_and b m) 1 ∙ ap₂ ◌⊕◌ (and_mod n m 1) (and_mod b m 1)))
    ∙ split (bit_and n m ⊕ bit_and b m) 1) a

pub linear_mask : (m : ℕ) (f : ℕ → ℕ) → Linear f → Linear (λ p. bit_and (f p) m)
linear_mask m f lf = linear_then f (λ x. bit_and x m) lf (λ a b. mask_sum a b m)

-- ---- both remainders
pub syndrome_lt : (p : ℕ) → syndrome p < 2 ^ 10
unfolding syndrome
syndrome_lt p = remainder_lt 10 generator refl 26 p

unfoldable pub both_leave : ℕ → ℕ
both_leave p = syndrome (p / 2 ^ 26) * 2 ^ 26 ⊕ syndrome (p % 2 ^ 26)

pub both_leave_lem : (p : ℕ) → both_leave p ≡ syndrome (p / 2 ^ 26) * 2 ^ 26 + syndrome (p % 2 ^ 26)
unfolding both_leave
both_leave_lem p =
    let l = syndrome_lt (p % 2 ^ 26) in
    xor_shifted (syndrome (p / 2 ^ 26)) 26 (syndrome (p % 2 ^ 26)) (omega arith)

pub linear_both : Linear both_leave
unfolding both_leave
linear_both =
    linear_sum (λ p. syndrome (p / 2 ^ 26) * 2 ^ 26) (λ p. syndrome (p % 2 ^ 26))
    (linear_then (λ p. syndrome (p / 2 ^ 26)) (λ x. x * 2 ^ 26) (linear_then (λ p. p / 2 ^ 26) syndrome (linear_down 26) syndrome_xor) (linear_up 26))
    (linear_then (λ p. p % 2 ^ 26) syndrome (linear_low 26) syndrome_xor)

-- ---- two letters
pub offset_small : (letter : Letter) → offset_of letter < 2 ^ 10
offset_small A = omega arith
offset_small B = omega arith
offset_small C = omega arith
offset_small D = omega arith

apart : (s t o p : ℕ) → t < 2 ^ 10 → p < 2 ^ 10 → s * 2 ^ 26 + t ≡ o * 2 ^ 26 + p → (s ≡ o) × (t ≡ p)
apart s t o p ht hp e =
    let so : s ≡ o = omega arith in
    (so, omega arith)

-- both leave the two offset words just where both are blocks of the letters
pub both_valid : (x y : ℕ) (first second : Letter) → x < 2 ^ 26 → y < 2 ^ 26
    → eqb (syndrome x * 2 ^ 26 + syndrome y) (offset_of first * 2 ^ 26 + offset_of second) ≡ (is_valid x first && is_valid y second)
both_valid x y first second hx hy =
    by_test (eqb (syndrome x * 2 ^ 26 + syndrome y) (offset_of first * 2 ^ 26 + offset_of second))
    (λ t.
    let e = apart (syndrome x) (syndrome y) (offset_of first) (offset_of second) (syndrome_lt y) (offset_small second) (eqb-true _ _ t) in
    t ∙ sym (and_yes (is_valid y second) (remainder_valid x first hx e.0) ∙ remainder_valid y second hy e.1))
    (λ t.
    by_test (is_valid x first)
    (λ v.
    by_test (is_valid y second)
    (λ w.
    absurd
    (true≢false
    (sym (eq-eqb (syndrome x * 2 ^ 26 + syndrome y) (offset_of first * 2 ^ 26 + offset_of second) (ap₂ (λ (s p : ℕ). s * 2 ^ 26 + p) (valid_remainder x first v) (valid_remainder y second w))) ∙ t)))
    (λ w. t ∙ sym (and_yes (is_valid y second) v ∙ w)))
    (λ v. t ∙ sym (and_no (is_valid y second) v)))

-- two tests that fail together fail with any more
pub fails_more : (a b c : Bool) → (a && b) ≡ false → (a && (b && c)) ≡ false
fails_more true b c e = and_no c e
fails_more false b c e = refl
