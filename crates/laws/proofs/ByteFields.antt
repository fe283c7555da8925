-- A field of bits that lies within one byte, by that byte; and a field in two parts. Assumes nothing.
use mathlib.Core.Path.{◌≡◌, sym, ap, ap₂, ◌∙◌}
use mathlib.Core.List.{List, ◌++◌}
use Prim.Native.Nat.{ℕ, zero, suc, ◌+◌, ◌-◌, ◌*◌, ◌/◌, ◌%◌, ◌^◌, ◌<◌, ◌≤◌}
use native.Mathlib.Nat.{mul_assoc, pow-suc}
use native.Mathlib.Omega.{arith}
use lib.ListN.{get_or}
use lib.Pow.{mod-pow-add, shr-shr}
use Rattle.laws.specs.Bits.{at, bits_of, bits}
use Rattle.laws.proofs.Bits.{bit_of, length_bits_of, at_left, at_right, at_bits}

-- the w bits from bit p of the byte at i
pub at_byte : (b : List ℕ) (i p w : ℕ) → p + w ≤ 8 → at (bits b) (i * 8 + p) w ≡ get_or b i 0 / 2 ^ (8 - (p + w)) % 2 ^ w
unfolding at
at_byte b i p zero h = omega arith
at_byte b i p (suc w) h =
    let x = get_or b i 0 in
    let k = 8 - (p + suc w) in
    let e : 8 - (p + w) ≡ k + 1 = omega arith in
    let q : (i * 8 + p + w) / 8 ≡ i = omega arith in
    let r : 7 - (i * 8 + p + w) % 8 ≡ k = omega arith in
    let s : w + 1 ≡ suc w = omega arith in
    ap₂ (λ (a c : ℕ). a * 2 + c)
    (at_byte b i p w (omega arith) ∙ ap (λ (n : ℕ). x / 2 ^ n % 2 ^ w) e ∙ ap (λ (n : ℕ). n % 2 ^ w) (sym (shr-shr x k 1)))
    (sym (bit_of b (i * 8 + p + w)) ∙ ap₂ (λ (j n : ℕ). get_or b j 0 / 2 ^ n % 2) q r)
    ∙ sym (mod-pow-add (x / 2 ^ k) w 1)
    ∙ ap (λ (n : ℕ). x / 2 ^ k % 2 ^ n) s

-- the first u bits of a field, and the w behind them
pub at_parts : (l : List ℕ) (p u w : ℕ) → at l p (u + w) ≡ at l p u * 2 ^ w + at l (p + u) w
unfolding at
at_parts l p u zero = let e : u + 0 ≡ u = omega arith in rw e (omega arith)
at_parts l p u (suc w) =
    let e : u + suc w ≡ suc (u + w) = omega arith in
    let g : get_or l (p + (u + w)) 0 ≡ get_or l (p + u + w) 0 = ap (λ (n : ℕ). get_or l n 0) (omega arith) in
    let ih = at_parts l p u w in
    let m : at l p u * 2 ^ suc w ≡ at l p u * 2 ^ w * 2 = pow_more (at l p u) w in
    rw e (omega arith)
  where
    pow_more : (x k : ℕ) → x * 2 ^ suc k ≡ x * 2 ^ k * 2
    pow_more x k = ap (λ (n : ℕ). x * n) (pow-suc 2 k) ∙ sym (mul_assoc x (2 ^ k) 2)

-- a field that stands first, and one behind it
pub at_front : (w x : ℕ) (l : List ℕ) → x < 2 ^ w → at (bits_of w x ++ l) 0 w ≡ x
at_front w x l h = at_left (bits_of w x) l 0 w (omega (arith, length_bits_of w x)) ∙ at_bits w x h

pub at_behind : (w x : ℕ) (l : List ℕ) (p u : ℕ) → at (bits_of w x ++ l) (w + p) u ≡ at l p u
at_behind w x l p u = ap (λ (n : ℕ). at (bits_of w x ++ l) (n + p) u) (sym (length_bits_of w x)) ∙ at_right (bits_of w x) l p u
