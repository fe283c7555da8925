-- The first marked place of 64 bits, by the zeros above it: no block A begins before. Assumes nothing.
use mathlib.Core.Path.{◌≡◌, refl, sym, ap, ◌∙◌, subst}
use mathlib.Core.Bool.{Bool, true, false}
use mathlib.Core.List.{List}
use Prim.Native.Nat.{ℕ, ◌+◌, ◌*◌, ◌/◌, ◌%◌, ◌-◌, ◌^◌, ◌<◌, ◌≤◌}
use native.Mathlib.Nat.{zero-add, lt_of_lt_of_le}
use native.Mathlib.Omega.{arith}
use native.Mathlib.Decide.{dec_lt}
use lib.Count.{count_leading_zeros, leading_le, leading_length, leading_of_zero}
use lib.Pow.{pow_mono, field, mod-mod-pow, shr_lt}
use Rattle.laws.specs.Bits.{at, bits}
use Rattle.laws.proofs.Bits.{under_spread}
use Rattle.block.specs.Block.{is_valid}
use Rattle.block.specs.declared.Letter.TheVariants.{A}
use Rattle.receiver.specs.Search.{Marks, NoneOf, ClearUpTo}
use Rattle.receiver.proofs.Octets.{within}

unmarked : (t : Bool) (x : ℕ) → x ≡ 0 → (t ≡ true → x ≡ 1) → t ≡ false
unmarked true x z o = let e = o refl in absurd (omega arith)
unmarked false x z o = refl

-- so many digits have they
digits : (m : ℕ) → (n : ℕ) × (count_leading_zeros 64 (m % 549755813888) + n ≡ 64) × (m % 549755813888 < 2 ^ n) × (n ≤ 39)
digits m =
    let s = leading_length 64 (m % 549755813888) (omega arith) in
    (s.0, s.1, s.2, few s.0 s.3)
  where
    few : (n : ℕ) → 2 ^ n ≤ 2 * (m % 549755813888) + 1 → n ≤ 39
    few n h = elim (dec_lt 39 n) [
      | yes k ↦ let p : 2 ^ 40 ≤ 2 ^ n = pow_mono {i = 40} {j = n} k in absurd (omega arith)
      | no k ↦ omega arith
    ]

-- a bit above the digits is 0
above : (m n j : ℕ) → m % 549755813888 < 2 ^ n → n ≤ j → j < 39 → m / 2 ^ j % 2 ≡ 0
above m n j h k b =
    let e : 38 - j + 1 + j ≡ 39 = omega arith in
    let s : m % 549755813888 / 2 ^ j < 2 ^ 0 = shr_lt 0 j (subst (λ (x : ℕ). m % 549755813888 < 2 ^ x) (sym (zero-add j)) (lt_of_lt_of_le h (pow_mono k))) in
    let z : m % 549755813888 / 2 ^ j ≡ 0 = omega arith in
    sym (mod-mod-pow (m / 2 ^ j) (38 - j) 1)
    ∙ ap (λ (x : ℕ). x % 2) (sym (field m (38 - j + 1) j) ∙ ap (λ (w : ℕ). m % 2 ^ w / 2 ^ j) e ∙ z)

none_before : (b : List ℕ) (from u m : ℕ) → u ≡ at (bits b) from 64 → Marks u m → NoneOf (bits b) from (count_leading_zeros 64 (m % 549755813888) - 25)
none_before b from u m e marked k h =
    let d = digits m in
    let j : ℕ = 38 - k in
    let f : k + 26 + j ≡ 64 = omega (arith, d.1, d.3) in
    let at_place : u / 2 ^ j % 2 ^ 26 ≡ at (bits b) (from + k) 26 =
    ap (λ (x : ℕ). x / 2 ^ j % 2 ^ 26) (e ∙ ap (at (bits b) from) (sym f)) ∙ within (bits b) from k 26 j (under_spread 8 b) in
    ap (λ (x : ℕ). is_valid x A) (sym at_place)
    ∙ unmarked _ _ (above m d.0 j d.2 (omega (arith, d.1, d.3)) (omega arith)) (marked j)

pub clear : (b : List ℕ) (from u m : ℕ) → u ≡ at (bits b) from 64 → Marks u m → ClearUpTo (bits b) from (m % 549755813888)
clear b from u m e marked =
    let d = digits m in
    record {
      least = omega (arith, d.1, d.3);
      most = leading_le 64 (m % 549755813888);
      none = none_before b from u m e marked;
    }

-- no mark: none of 39
pub all_clear : {l : List ℕ} {from m : ℕ} → ClearUpTo l from m → m ≡ 0 → NoneOf l from 39
all_clear {l} {from} {m} c e k h = c.none k (let z = ap (count_leading_zeros 64) e ∙ leading_of_zero 64 in omega arith)
