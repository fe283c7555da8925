-- That `remainder` is the remainder: p is a multiple of g and the remainder, which is of lower degree than g, and no other number is. Assumes nothing.
use mathlib.Core.Path.{◌≡◌, sym, ap, ap₂, ◌∙◌, subst}
use Prim.Native.Nat.{ℕ, zero, suc, ◌+◌, ◌*◌, ◌/◌, ◌%◌, ◌^◌, ◌≤◌, ◌<◌}
use native.Mathlib.Nat.{mod-lt, zero-lt-suc, zero-mul, one-mul, div-lt_iff_lt-mul, div-add-mod', pow-suc, mul_comm, mul-div_cancel, mul-mod_left, add-zero, suc-add, lt_of_lt_of_le, add_comm, mul-lt-mul_of_pos_right}
use native.Mathlib.Omega.{arith}
use lib.Pow.{pow_pos, pow_mono}
use lib.Arith.{lt-one, digits_div, digits_mod}
use lib.Bits.{bit_xor, xor_block, xor_self, xor_lt}
use Rattle.laws.specs.Poly.{reduce, remainder, product, quotient, IsRemainder}
use Rattle.laws.proofs.Xor.{bit_cases, xor_assoc}
use Rattle.laws.proofs.Remainder.{half, top, down, leading_zeros, remainder_lt, remainder_low, remainder_xor, reduce_low}

module _ (d g : ℕ) (hg : g / 2 ^ d ≡ 1) where
  -- p = quotient * g + remainder
  pub division : (n p : ℕ) → p < 2 ^ n → p ≡ bit_xor (product n (quotient d g n p) g) (remainder d g n p)
  unfolding product quotient remainder reduce
  division zero p h = lt-one h
  division (suc n) p h =
      sym (div-add-mod' p 2)
      ∙ ap (λ (x : ℕ). x * 2 + p % 2) (division n (p / 2) (half p n h))
      ∙ sym (xor_block 1 P r 0 (p % 2) (zero-lt-suc 1) (mod-lt p (zero-lt-suc 1)))
      ∙ ap (λ (x : ℕ). bit_xor x t) (add-zero (P * 2))
      ∙ ap (bit_xor (P * 2)) (ap (λ (x : ℕ). bit_xor x t) (sym (xor_self (c * g))) ∙ xor_assoc (c * g) (c * g) t)
      ∙ sym (xor_assoc (P * 2) (c * g) (bit_xor (c * g) t))
      ∙ ap₂ (λ (x y : ℕ). bit_xor (bit_xor (product n x g * 2) (y * g)) (bit_xor (c * g) t)) (sym (digits_div q c_lt)) (sym (digits_mod q c_lt))
    where
      r : ℕ
      r = remainder d g n (p / 2)

      q : ℕ
      q = quotient d g n (p / 2)

      P : ℕ
      P = product n q g

      t : ℕ
      t = r * 2 + p % 2

      c : ℕ
      c = t / 2 ^ d

      c_lt : c < 2
      c_lt = top d g t (down d g r (p % 2) (remainder_lt d g hg n (p / 2)) (mod-lt p (zero-lt-suc 1)))

  g_lt : g < 2 ^ suc d
  g_lt =
      let l : g / 2 ^ d < 2 = omega arith in
      subst (λ (x : ℕ). g < x) (sym (pow-suc 2 d ∙ mul_comm (2 ^ d) 2)) ((div-lt_iff_lt-mul (pow_pos d)).0 l)

  longer : (n r : ℕ) → r < 2 ^ d → r < 2 ^ (n + d)
  longer n r h = let l : d ≤ n + d = omega arith in lt_of_lt_of_le h (pow_mono l)

  -- g divides 0, g and every multiple of g
  remainder_zero : (n : ℕ) → remainder d g n 0 ≡ 0
  remainder_zero n = remainder_low d g n 0 (pow_pos d) (pow_pos n)

  remainder_self : (n : ℕ) → remainder d g (suc (n + d)) g ≡ 0
  unfolding remainder reduce
  remainder_self n =
      ap (λ (x : ℕ). reduce d g (x * 2 + g % 2)) (remainder_low d g (n + d) (g / 2) (half g d g_lt) (longer n (g / 2) (half g d g_lt)))
      ∙ ap (reduce d g) (div-add-mod' g 2)
      ∙ ap (λ (x : ℕ). bit_xor (x * g) g) hg
      ∙ ap (λ (x : ℕ). bit_xor x g) (one-mul g)
      ∙ xor_self g

  double : (n p : ℕ) → remainder d g n p ≡ 0 → remainder d g (suc n) (p * 2) ≡ 0
  unfolding remainder
  double n p e =
      ap₂ (λ (x y : ℕ). reduce d g (remainder d g n x * 2 + y)) (mul-div_cancel p (zero-lt-suc 1)) (mul-mod_left p 2)
      ∙ ap (λ (x : ℕ). reduce d g (x * 2 + 0)) e
      ∙ reduce_low d g 0 (pow_pos d)

  pub remainder_product : (n q : ℕ) → remainder d g (n + d) (product n q g) ≡ 0
  unfolding product
  remainder_product zero q = remainder_zero (0 + d)
  remainder_product (suc n) q =
      ap (λ (m : ℕ). remainder d g m (product (suc n) q g)) (suc-add n d)
      ∙ remainder_xor d g hg (suc (n + d)) (product n (q / 2) g * 2) (q % 2 * g)
      ∙ ap₂ bit_xor (double (n + d) (product n (q / 2) g) (remainder_product n (q / 2)))
      (bit_cases (λ b. remainder d g (suc (n + d)) (b * g) ≡ 0) (q % 2) (mod-lt q (zero-lt-suc 1))
      (ap (remainder d g (suc (n + d))) (zero-mul g) ∙ remainder_zero (suc (n + d)))
      (ap (remainder d g (suc (n + d))) (one-mul g) ∙ remainder_self n))

  -- what is left of a multiple of g and an r of lower degree is r
  pub remainder_is : (n q r : ℕ) → r < 2 ^ d → remainder d g (n + d) (bit_xor (product n q g) r) ≡ r
  remainder_is n q r h =
      remainder_xor d g hg (n + d) (product n q g) r
      ∙ ap₂ bit_xor (remainder_product n q) (remainder_low d g (n + d) r h (longer n r h))

  -- ---- the remainder, said with no word of how it is found
  product_lt : (n q : ℕ) → product n q g < 2 ^ (n + d)
  unfolding product
  product_lt zero q = pow_pos (0 + d)
  product_lt (suc n) q =
      xor_lt (suc n + d) (product n (q / 2) g * 2) (q % 2 * g)
      (subst (λ (x : ℕ). product n (q / 2) g * 2 < x) (sym (ap (λ (m : ℕ). 2 ^ m) (suc-add n d) ∙ pow-suc 2 (n + d))) (mul-lt-mul_of_pos_right (product_lt n (q / 2)) (zero-lt-suc 1)))
      (lt_of_lt_of_le (bit_cases (λ b. b * g < 2 ^ suc d) (q % 2) (mod-lt q (zero-lt-suc 1)) (subst (λ (x : ℕ). x < 2 ^ suc d) (sym (zero-mul g)) (pow_pos (suc d))) (subst (λ (x : ℕ). x < 2 ^ suc d) (sym (one-mul g)) g_lt)) (let l : suc d ≤ suc n + d = omega arith in pow_mono l))

  -- what long division leaves is the remainder
  pub is_remainder : (n p : ℕ) → p < 2 ^ n → IsRemainder d g p (remainder d g n p)
  is_remainder n p h =
      record { terms = n; factor = quotient d g n p; divides = division n p h; shorter = remainder_lt d g hg n p }

  -- and no other number is
  pub only_remainder : (n p r : ℕ) → p < 2 ^ n → IsRemainder d g p r → r ≡ remainder d g n p
  only_remainder n p r h x =
      let m = x.terms + d in
      let small : p < 2 ^ m = subst (λ (y : ℕ). y < 2 ^ m) (sym x.divides) (xor_lt m (product x.terms x.factor g) r (product_lt x.terms x.factor) (longer x.terms r x.shorter)) in
      sym (ap (remainder d g m) x.divides ∙ remainder_is x.terms x.factor r x.shorter)
      ∙ sym (leading_zeros d g n m p small)
      ∙ ap (λ (k : ℕ). remainder d g k p) (add_comm n m)
      ∙ leading_zeros d g m n p h
