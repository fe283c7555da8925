-- Fields of a number's bits, and two numbers' bits side by side. Assumes nothing.
use mathlib.Core.Path.{◌≡◌, sym, ap, ap₂, ◌∙◌}
use mathlib.Core.List.{List, [], ◌∷◌, ◌++◌, append-nil, append_assoc}
use Prim.Native.Nat.{ℕ, zero, suc, ◌+◌, ◌-◌, ◌*◌, ◌/◌, ◌%◌, ◌^◌, ◌<◌, ◌≤◌}
use native.Mathlib.Nat.{pow-suc, mul_assoc}
use native.Mathlib.Omega.{arith}
use lib.ListN.{get_or}
use lib.Pow.{mod-pow-add, shr-shr}
use Rattle.laws.specs.Bits.{at, bits_of, bits}
use Rattle.laws.proofs.Bits.{get_d_bits_of}
use Rattle.laws.proofs.ByteFields.{at_byte, at_parts}

-- u bits from bit p of a number of w bits
pub at_within : (w x p u : ℕ) → p + u ≤ w → at (bits_of w x) p u ≡ x / 2 ^ (w - (p + u)) % 2 ^ u
unfolding at
at_within w x p zero h = omega arith
at_within w x p (suc u) h =
    let k = w - (p + suc u) in
    let e : w - (p + u) ≡ k + 1 = omega arith in
    let r : w - 1 - (p + u) ≡ k = omega arith in
    let s : u + 1 ≡ suc u = omega arith in
    ap₂ (λ (a c : ℕ). a * 2 + c)
    (at_within w x p u (omega arith) ∙ ap (λ (n : ℕ). x / 2 ^ n % 2 ^ u) e ∙ ap (λ (n : ℕ). n % 2 ^ u) (sym (shr-shr x k 1)))
    (get_d_bits_of w x (p + u) (omega arith) ∙ ap (λ (n : ℕ). x / 2 ^ n % 2) r)
    ∙ sym (mod-pow-add (x / 2 ^ k) u 1)
    ∙ ap (λ (n : ℕ). x / 2 ^ k % 2 ^ n) s

-- the bits of x, then the w bits of y, are those of one number
pub bits_join : (v w x y : ℕ) → y < 2 ^ w → bits_of (v + w) (x * 2 ^ w + y) ≡ bits_of v x ++ bits_of w y
unfolding bits_of
bits_join v zero x y h =
    let e : v + 0 ≡ v = omega arith in
    let z : x * 1 + y ≡ x = omega arith in
    ap₂ bits_of e z ∙ sym (append-nil (bits_of v x))
bits_join v (suc w) x y h =
    let e : v + suc w ≡ suc (v + w) = omega arith in
    let m : x * 2 ^ suc w ≡ x * 2 ^ w * 2 = ap (λ (n : ℕ). x * n) (pow-suc 2 w) ∙ sym (mul_assoc x (2 ^ w) 2) in
    let a : (x * 2 ^ suc w + y) / 2 ≡ x * 2 ^ w + y / 2 = omega (arith, m) in
    let b : (x * 2 ^ suc w + y) % 2 ≡ y % 2 = omega (arith, m) in
    rw (e, a, b) (ap (λ (l : List ℕ). l ++ (y % 2 ∷ [])) (bits_join v w x (y / 2) (omega arith)) ∙ append_assoc (bits_of v x) (bits_of w (y / 2)) (y % 2 ∷ []))

-- the sixteen bits from byte i on
pub at_word : (b : List ℕ) (i : ℕ) → get_or b i 0 < 256 → get_or b (i + 1) 0 < 256 → at (bits b) (i * 8) 16 ≡ get_or b i 0 * 256 + get_or b (i + 1) 0
at_word b i h k =
    let e : i * 8 + 0 ≡ i * 8 = omega arith in
    let f : i * 8 + 8 ≡ (i + 1) * 8 + 0 = omega arith in
    at_parts (bits b) (i * 8) 8 8
    ∙ ap₂ (λ (x y : ℕ). at (bits b) x 8 * 256 + at (bits b) y 8) (sym e) f
    ∙ omega (arith, at_byte b i 0 8 (omega arith), at_byte b (i + 1) 0 8 (omega arith))
