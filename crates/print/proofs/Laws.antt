-- A line's parts, as the code works them out. Assumes nothing.
use mathlib.Core.Path.{◌≡◌, refl, sym, ap, ◌∙◌}
use mathlib.Core.List.{List, [], ◌∷◌}
use Prim.Native.Nat.{ℕ, suc, ◌+◌, ◌*◌, ◌/◌, ◌%◌, ◌<◌, ◌≤◌}
use native.Mathlib.Omega.{arith}
use native.Mathlib.Numerals.{add-one}
use lib.ListN.{length, get_or, set, drop, drop_of_length-le}
use lib.Seq.{sets, drop-cons}
use borrow.Author.Tests.{lt-ltb, le-ltb}
use Rattle.laws.proofs.Cases.{if_yes, if_no}
use Rattle.print.specs.Lines.{glyph, hex_of, decimal_of}

-- ---- the answer
module _ (n : ℕ) where
  pub one_digit : n < 10 → (48 + n) ∷ [] ≡ decimal_of n
  unfolding decimal_of
  one_digit h = sym (if_yes _ _ (lt-ltb _ _ h))

  pub two_digits : 10 ≤ n → n < 100 → (48 + n / 10) ∷ (48 + n % 10) ∷ [] ≡ decimal_of n
  unfolding decimal_of
  two_digits l h = sym (if_no _ _ (le-ltb _ _ l) ∙ if_yes _ _ (lt-ltb _ _ h))

  pub three_digits : 10 ≤ n → 100 ≤ n → (48 + n / 100) ∷ (48 + n / 10 % 10) ∷ (48 + n % 10) ∷ [] ≡ decimal_of n
  unfolding decimal_of
  three_digits l h = sym (if_no _ _ (le-ltb _ _ l) ∙ if_no _ _ (le-ltb _ _ h))

-- how long each is
pub long_1 : (n : ℕ) → n < 10 → length (decimal_of n) ≡ 1
long_1 n h = ap (λ (l : List ℕ). length l) (sym (one_digit n h))

pub long_2 : (n : ℕ) → 10 ≤ n → n < 100 → length (decimal_of n) ≡ 2
long_2 n l h = ap (λ (l : List ℕ). length l) (sym (two_digits n l h))

pub long_3 : (n : ℕ) → 10 ≤ n → 100 ≤ n → length (decimal_of n) ≡ 3
long_3 n l h = ap (λ (l : List ℕ). length l) (sym (three_digits n l h))

-- ---- the bytes
pub length_hex : (bs : List ℕ) → length (hex_of bs) ≡ 2 * length bs
unfolding hex_of
length_hex [] = refl
length_hex (b ∷ bs) = omega (arith, length_hex bs)

-- the loop: what is left to write when i bytes are done
abbrev pub Going : List ℕ → List ℕ → List ℕ → ℕ → Type 0
Going frame out₀ out i = sets out₀ 0 (hex_of frame) ≡ sets out (2 * i) (hex_of (drop i frame))

pub going_turn : (frame out₀ out : List ℕ) (i x y : ℕ) → Going frame out₀ out i → i < length frame → x ≡ glyph (get_or frame i 0 / 16) → y ≡ glyph (get_or frame i 0 % 16)
    → Going frame out₀ (set (set out (2 * i) x) (2 * i + 1) y) (i + 1)
unfolding hex_of
going_turn frame out₀ out i x y g h ex ey =
    let e : 2 * i + 1 ≡ suc (2 * i) = omega arith in
    let f : 2 * (i + 1) ≡ suc (suc (2 * i)) = omega arith in
    g ∙ rw (drop-cons frame i 0 h, f, e, add-one i, ex, ey)

pub going_last : (frame out₀ out : List ℕ) (i : ℕ) → Going frame out₀ out i → length frame ≤ i → out ≡ sets out₀ 0 (hex_of frame)
unfolding hex_of
going_last frame out₀ out i g h = sym (g ∙ rw (drop_of_length-le frame h))
