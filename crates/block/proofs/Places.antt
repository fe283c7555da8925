-- Numbers by their bits, place by place: those of a sum, of a number that is 0 outside some places, and that equal bits are equal numbers. Assumes nothing.
use mathlib.Core.Path.{◌≡◌, refl, sym, ap, ap₂, ◌∙◌}
use mathlib.Core.Bool.{true, cond, ◌||◌}
use Prim.Native.Nat.{ℕ, zero, suc, ◌+◌, ◌-◌, ◌*◌, ◌/◌, ◌%◌, ◌^◌, ◌≤◌, ◌<◌}
use native.Mathlib.Nat.{mod-lt, zero-lt-suc, div-add-mod', mul_assoc, mul-one, pow-suc}
use native.Mathlib.Omega.{arith}
use borrow.Author.Tests.{eqb-true}
use lib.Arith.{lt-one}
use lib.Dec.{eqb}
use lib.Pow.{pow_pos, shr-shr, shr_le, shr_lt}
use lib.Bits.{xor_shr, xor_mod, xor_self}
use Rattle.laws.specs.Poly.{◌⊕◌}
use Rattle.laws.specs.Below.{below}
use Rattle.laws.proofs.Below.{at_each}
use Rattle.laws.proofs.Remainder.{half}
use Rattle.laws.proofs.Xor.{bit_cases}
use Rattle.block.specs.Damage.{bit_at, DifferAt}

-- the places of half a number are one lower
lower : (a p : ℕ) → bit_at (a / 2) p ≡ bit_at a (1 + p)
lower a p = ap (λ (x : ℕ). x % 2) (shr-shr a 1 p)

pub same_bits : (w a b : ℕ) → a < 2 ^ w → b < 2 ^ w → ((p : ℕ) → p < w → bit_at a p ≡ bit_at b p) → a ≡ b
same_bits zero a b ha hb h = lt-one ha ∙ sym (lt-one hb)
same_bits (suc w) a b ha hb h =
    let low : a / 1 % 2 ≡ b / 1 % 2 = h 0 (omega arith) in
    let last : a % 2 ≡ b % 2 = omega arith in
    sym (div-add-mod' a 2)
    ∙ ap₂ (λ (x y : ℕ). x * 2 + y) (same_bits w (a / 2) (b / 2) (half a w ha) (half b w hb) (λ p l. lower a p ∙ h (1 + p) (omega arith) ∙ sym (lower b p))) last
    ∙ div-add-mod' b 2

-- the bits of a sum modulo 2: 0 where two numbers agree, 1 where they differ
bit_sum : (m n p : ℕ) → bit_at (m ⊕ n) p ≡ bit_at m p ⊕ bit_at n p
bit_sum m n p = ap (λ (x : ℕ). x % 2) (xor_shr m n p) ∙ xor_mod (m / 2 ^ p) (n / 2 ^ p) 1

pub agreeing : (m n p : ℕ) → bit_at m p ≡ bit_at n p → bit_at (m ⊕ n) p ≡ 0
agreeing m n p e = bit_sum m n p ∙ ap (λ (x : ℕ). x ⊕ bit_at n p) e ∙ xor_self (bit_at n p)

pub differing : (m n p : ℕ) → DifferAt m n p → bit_at (m ⊕ n) p ≡ 1
differing m n p d = bit_sum m n p ∙ unlike (bit_at m p) (bit_at n p) (mod-lt (m / 2 ^ p) (zero-lt-suc 1)) (mod-lt (n / 2 ^ p) (zero-lt-suc 1)) d
  where
    unlike : (x y : ℕ) → x < 2 → y < 2 → (x ≡ y → ⊥) → x ⊕ y ≡ 1
    unlike x y hx hy =
        bit_cases (λ a. (a ≡ y → ⊥) → a ⊕ y ≡ 1) x hx
        (bit_cases (λ b. (0 ≡ b → ⊥) → 0 ⊕ b ≡ 1) y hy (λ n. absurd (n refl)) (λ n. refl))
        (bit_cases (λ b. (1 ≡ b → ⊥) → 1 ⊕ b ≡ 1) y hy (λ n. refl) (λ n. absurd (n refl)))

pub zero_bit : (p : ℕ) → bit_at 0 p ≡ 0
zero_bit p = let l : 0 / 2 ^ p ≤ 0 = shr_le 0 p in omega arith

-- with no bit below k it is a multiple of 2^k
pub no_low : (k e : ℕ) → ((p : ℕ) → p < k → bit_at e p ≡ 0) → e ≡ e / 2 ^ k * 2 ^ k
no_low zero e h = let q : e / 1 ≡ e = omega arith in sym (mul-one (e / 1) ∙ q)
no_low (suc k) e h =
    let low : e / 1 % 2 ≡ 0 = h 0 (omega arith) in
    let even : e ≡ e / 2 * 2 = omega arith in
    let add : 1 + k ≡ suc k = omega arith in
    even
    ∙ ap (λ (x : ℕ). x * 2) (no_low k (e / 2) (λ p l. lower e p ∙ h (1 + p) (omega arith)) ∙ ap (λ (x : ℕ). x * 2 ^ k) (shr-shr e 1 k ∙ ap (λ (j : ℕ). e / 2 ^ j) add))
    ∙ mul_assoc (e / 2 ^ suc k) (2 ^ k) 2
    ∙ ap (λ (x : ℕ). e / 2 ^ suc k * x) (sym (pow-suc 2 k))

-- with none from k + 10 on, of 26 bits, what stands from k on is below 1024
pub no_high : (k e : ℕ) → k ≤ 16 → e < 2 ^ 26 → ((p : ℕ) → p < 26 → k + 10 ≤ p → bit_at e p ≡ 0) → e / 2 ^ k < 1024
no_high k e hk he h =
    let n : 26 ≡ 16 - k + (k + 10) = omega arith in
    let f : e / 2 ^ (k + 10) ≡ 0 =
    same_bits (16 - k) (e / 2 ^ (k + 10)) 0 (shr_lt (16 - k) (k + 10) (rw_lt n)) (pow_pos (16 - k))
    (λ p l. ap (λ (x : ℕ). x % 2) (shr-shr e (k + 10) p) ∙ h (k + 10 + p) (omega arith) (omega arith) ∙ sym (zero_bit p)) in
    let g : e / 2 ^ k / 1024 ≡ 0 = shr-shr e k 10 ∙ f in
    omega arith
  where
    rw_lt : 26 ≡ 16 - k + (k + 10) → e < 2 ^ (16 - k + (k + 10))
    rw_lt n = rw (sym n) he

-- the bits of the sum of two powers, which the checker computes
abbrev only : ℕ → ℕ → ℕ → ℕ
only i j p = cond (eqb p i || eqb p j) 1 0

pairs_computed : below 26 (λ i. below i (λ j. below 26 (λ p. eqb (bit_at (2 ^ i + 2 ^ j) p) (only i j p)))) ≡ true
unfolding below
pairs_computed = refl

pub pair_bits : (i j p : ℕ) → i < 26 → j < i → p < 26 → bit_at (2 ^ i + 2 ^ j) p ≡ cond (eqb p i || eqb p j) 1 0
pair_bits i j p hi hj hp =
    eqb-true _ _
    (at_each 26 (λ p. eqb (bit_at (2 ^ i + 2 ^ j) p) (only i j p))
    (at_each i (λ j. below 26 (λ p. eqb (bit_at (2 ^ i + 2 ^ j) p) (only i j p)))
    (at_each 26 (λ i. below i (λ j. below 26 (λ p. eqb (bit_at (2 ^ i + 2 ^ j) p) (only i j p)))) pairs_computed i hi) j hj) p hp)
