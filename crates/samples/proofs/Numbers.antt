-- Eight bytes as a number, and the float of a pattern. Assumes nothing.
use mathlib.Core.Path.{◌≡◌, refl, sym, ap, ◌∙◌, subst}
use mathlib.Core.List.{List}
use Prim.Native.Nat.{ℕ, ◌+◌, ◌*◌, ◌%◌, ◌^◌, ◌≤◌, ◌<◌}
use native.Mathlib.Nat.{lt_of_lt_of_le}
use native.Mathlib.Omega.{arith}
use Rattle.samples.specs.Numbers.{word_at}
use lib.ListN.{get_or}
use mathlib.Core.Bool.{Bool, true, not}
use lib.Dec.{T}
use borrow.Author.Tests.{lt-ltb, le-ltb}
use lib.Ieee.{Float, nan, inf, fin, binary64, div, of_bits, is_nan, nan_bits}
use lib.Ieee.Bits.{nan_bits_is, nan_bits_above}
use native.Mathlib.Numerals.{add-one}
use lib.Pow.{pow-add, pow_mono}

pub word_next : (b : List ℕ) (at k n x : ℕ) → n ≡ word_at b at k → x ≡ get_or b (at + k) 0 → n * 256 + x ≡ word_at b at (k + 1)
unfolding word_at
word_next b at k n x p q = ap (λ (z : ℕ). z * 256 + x) p ∙ ap (λ (z : ℕ). word_at b at k * 256 + z) q ∙ ap (word_at b at) (sym (add-one k))

pub word_more : (n b k : ℕ) → n < 2 ^ (8 * k) → b < 256 → n * 256 + b < 2 ^ (8 * (k + 1))
word_more n b k h l =
    let e : 8 * (k + 1) ≡ 8 * k + 8 = omega arith in
    let p : 2 ^ (8 * k + 8) ≡ 2 ^ (8 * k) * 256 = pow-add 2 (8 * k) 8 in
    let q : n * 256 + b < 2 ^ (8 * k + 8) = omega arith in
    subst (λ (x : ℕ). n * 256 + b < 2 ^ x) (sym e) q

pub word_room : (n k : ℕ) → n < 2 ^ (8 * k) → k < 8 → n < 2 ^ 56
word_room n k h l = let m : 8 * k ≤ 56 = omega arith in lt_of_lt_of_le h (pow_mono m)

-- ---- a pattern that is no NaN's, by the test in the code
zero_over_zero : div binary64 (of_bits binary64 0) (of_bits binary64 0) ≡ nan
unfolding div of_bits
zero_over_zero = refl

only_nan : (x : Float) → is_nan x ≡ true → x ≡ nan
unfolding is_nan
only_nan nan h = refl
only_nan (inf s) h = absurd (subst T (sym h) tt)
only_nan (fin s m e) h = absurd (subst T (sym h) tt)

pub nan_made : (n : ℕ) → 0x7ff0000000000000 < n % 0x8000000000000000 → div binary64 (of_bits binary64 0) (of_bits binary64 0) ≡ of_bits binary64 n
nan_made n h =
    let t : nan_bits binary64 n ≡ true = nan_bits_above binary64 n ∙ lt-ltb 0x7ff0000000000000 (n % 0x8000000000000000) h in
    zero_over_zero ∙ sym (only_nan (of_bits binary64 n) (sym (nan_bits_is binary64 n) ∙ t))

pub no_nan : (n : ℕ) → n % 0x8000000000000000 ≤ 0x7ff0000000000000 → T (not (nan_bits binary64 n))
no_nan n h = subst (λ (b : Bool). T (not b)) (sym (nan_bits_above binary64 n ∙ le-ltb 0x7ff0000000000000 (n % 0x8000000000000000) h)) tt
