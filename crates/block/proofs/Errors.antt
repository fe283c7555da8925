-- What damage the check bits show (000, 7.1.3: every change of one or two bits, and every burst of at most ten). Assumes nothing.
use mathlib.Core.Path.{◌≡◌, refl, sym, ap, ◌∙◌}
use mathlib.Core.Bool.{Bool, true, not}
use Prim.Native.Nat.{ℕ, ◌+◌, ◌-◌, ◌*◌, ◌^◌, ◌≤◌, ◌<◌}
use native.Mathlib.Nat.{lt_of_lt_of_le}
use native.Mathlib.Omega.{arith}
use borrow.Author.Tests.{eqb-false, not-true}
use lib.Dec.{eqb}
use lib.Pow.{pow_mono}
use lib.Bits.{xor_self}
use Rattle.laws.specs.Poly.{◌⊕◌, reduce, remainder}
use Rattle.laws.specs.Below.{below}
use Rattle.laws.proofs.Below.{at_each}
use Rattle.laws.proofs.Xor.{xor_undo}
use Rattle.laws.proofs.Remainder.{remainder_low, divides_shift}
use Rattle.block.specs.declared.Letter.{Letter}
use Rattle.block.specs.Block.{generator, offset_of, syndrome, carries, is_valid}
use Rattle.block.proofs.Validity.{syndrome_xor, carries_remainder}

-- A change that leaves a block a block of the same offset is a multiple of the generator.
pub change : (bits e offset : ℕ) → carries bits offset ≡ true → carries (bits ⊕ e) offset ≡ true → syndrome e ≡ 0
change bits e offset p q =
    sym (xor_undo (syndrome bits) (syndrome e))
    ∙ ap (λ (x : ℕ). syndrome bits ⊕ x) (sym (syndrome_xor bits e) ∙ carries_remainder (bits ⊕ e) offset q ∙ sym (carries_remainder bits offset p))
    ∙ xor_self (syndrome bits)

pub burst : (p k : ℕ) → k ≤ 16 → 0 < p → p < 1024 → syndrome (p * 2 ^ k) ≡ 0 → ⊥
unfolding syndrome
burst p k hk hp h e =
    let n : 26 ≡ 26 - k + k = omega arith in
    let le : 10 ≤ 26 - k = omega arith in
    let z : p ≡ 0 =
    sym (remainder_low 10 generator (26 - k) p h (lt_of_lt_of_le h (pow_mono le)))
    ∙ divides_shift 10 generator refl refl k (26 - k) p (sym (ap (λ (m : ℕ). remainder 10 generator m (p * 2 ^ k)) n) ∙ e) in
    omega arith

-- the 325 pairs of bits, a test that the checker computes
shown : ℕ → ℕ → Bool
shown i j = not (eqb (syndrome (2 ^ i + 2 ^ j)) 0)

pairs_shown : below 26 (λ i. below i (shown i)) ≡ true
unfolding below shown syndrome remainder reduce
pairs_shown = refl

pub pair : (i j : ℕ) → i < 26 → j < i → syndrome (2 ^ i + 2 ^ j) ≡ 0 → ⊥
unfolding shown
pair i j h l = eqb-false (syndrome (2 ^ i + 2 ^ j)) 0 (not-true _ (at_each i (shown i) (at_each 26 (λ i. below i (shown i)) pairs_shown i h) j l))

-- A burst, a change of bits that lie within ten neighbouring places, never makes a block a block of its letter again. A change of one bit is a burst.
pub burst_shown : (bits : ℕ) (letter : Letter) (p k : ℕ) → is_valid bits letter ≡ true → k ≤ 16 → 0 < p → p < 1024 → is_valid (bits ⊕ p * 2 ^ k) letter ≡ true → ⊥
unfolding is_valid
burst_shown bits letter p k t hk hp h u = burst p k hk hp h (change bits (p * 2 ^ k) (offset_of letter) t u)

-- Neither does a change of any two bits.
pub pair_shown : (bits : ℕ) (letter : Letter) (i j : ℕ) → is_valid bits letter ≡ true → i < 26 → j < i → is_valid (bits ⊕ (2 ^ i + 2 ^ j)) letter ≡ true → ⊥
unfolding is_valid
pair_shown bits letter i j t hi hj u = pair i j hi hj (change bits (2 ^ i + 2 ^ j) (offset_of letter) t u)
