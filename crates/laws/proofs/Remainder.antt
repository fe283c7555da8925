-- Laws of the remainder, for every g of degree d. Assumes nothing.
use mathlib.Core.Path.{◌≡◌, refl, sym, ap, ap₂, ◌∙◌, subst}
use Prim.Native.Nat.{ℕ, zero, suc, ◌+◌, ◌*◌, ◌/◌, ◌%◌, ◌^◌, ◌<◌}
use native.Mathlib.Nat.{mod-lt, zero-lt-suc, zero-mul, one-mul, div-lt_iff_lt-mul, div-add-mod', pow-suc, mul_comm, mul-one, add-zero, add-suc, div-le_self, lt_of_le_of_lt, le_of_eq}
use native.Mathlib.Omega.{arith}
use lib.Pow.{pow_pos}
use lib.Arith.{digits_lt, lt-one}
use lib.Bits.{bit_xor, xor_shr, xor_mod, xor_block, xor_zero_r, xor_self, shifted_half, shifted_even}
use Rattle.laws.specs.Poly.{reduce, remainder}
use Rattle.laws.proofs.Xor.{bit_cases, xor_4, xor_eq}

-- a bit times g, over a sum of bits
scale : (g p q : ℕ) → p < 2 → q < 2 → bit_xor p q * g ≡ bit_xor (p * g) (q * g)
scale g p q hp hq =
    bit_cases (λ a. bit_xor a q * g ≡ bit_xor (a * g) (q * g)) p hp (ap (λ (x : ℕ). bit_xor x (q * g)) (sym (zero-mul g)))
    (bit_cases (λ b. bit_xor 1 b * g ≡ bit_xor (1 * g) (b * g)) q hq
    (sym (ap (bit_xor (1 * g)) (zero-mul g) ∙ xor_zero_r (1 * g)))
    (zero-mul g ∙ sym (xor_self (1 * g))))

-- a polynomial of n + 1 coefficients without its last
pub half : (p n : ℕ) → p < 2 ^ suc n → p / 2 < 2 ^ n
half p n h = (div-lt_iff_lt-mul (zero-lt-suc 1)).1 (subst (λ (x : ℕ). p < x) (pow-suc 2 n) h)

-- x^d times the top coefficient, and the rest
module _ (d g : ℕ) where
  -- t has degree d at most
  pub top : (t : ℕ) → t < 2 ^ suc d → t / 2 ^ d < 2
  top t h = (div-lt_iff_lt-mul (pow_pos d)).1 (subst (λ (x : ℕ). t < x) (pow-suc 2 d ∙ mul_comm (2 ^ d) 2) h)

  -- a remainder with the next coefficient brought down
  pub down : (r b : ℕ) → r < 2 ^ d → b < 2 → r * 2 + b < 2 ^ suc d
  down r b hr hb = subst (λ (x : ℕ). r * 2 + b < x) (sym (pow-suc 2 d)) (digits_lt hr hb)

  pub reduce_xor : (a b : ℕ) → a < 2 ^ suc d → b < 2 ^ suc d → reduce d g (bit_xor a b) ≡ bit_xor (reduce d g a) (reduce d g b)
  unfolding reduce
  reduce_xor a b ha hb =
      ap (λ (x : ℕ). bit_xor (x * g) (bit_xor a b)) (xor_shr a b d)
      ∙ ap (λ (x : ℕ). bit_xor x (bit_xor a b)) (scale g (a / 2 ^ d) (b / 2 ^ d) (top a ha) (top b hb))
      ∙ xor_4 (a / 2 ^ d * g) (b / 2 ^ d * g) a b

  -- what is of lower degree stays
  pub reduce_low : (t : ℕ) → t < 2 ^ d → reduce d g t ≡ t
  unfolding reduce
  reduce_low t h = ap (λ (x : ℕ). bit_xor (x * g) t) (div0 t h) ∙ ap (λ (x : ℕ). bit_xor x t) (zero-mul g)
    where
      div0 : (t : ℕ) → t < 2 ^ d → t / 2 ^ d ≡ 0
      div0 t h =
          let l : t / 2 ^ d < 1 = (div-lt_iff_lt-mul (pow_pos d)).1 (subst (λ (x : ℕ). t < x) (sym (one-mul (2 ^ d))) h) in omega arith

  -- g has degree d
  module _ (hg : g / 2 ^ d ≡ 1) where
    pub reduce_lt : (t : ℕ) → t < 2 ^ suc d → reduce d g t < 2 ^ d
    unfolding reduce
    reduce_lt t h =
        subst (λ (x : ℕ). reduce d g t < x) (one-mul (2 ^ d))
        ((div-lt_iff_lt-mul (pow_pos d)).0 (lt_of_le_of_lt (le_of_eq none) (zero-lt-suc 0)))
      where
        none : reduce d g t / 2 ^ d ≡ 0
        none =
            xor_shr (t / 2 ^ d * g) t d
            ∙ bit_cases (λ p. bit_xor (p * g / 2 ^ d) p ≡ 0) (t / 2 ^ d) (top t h)
            (ap (λ (x : ℕ). bit_xor (x / 2 ^ d) 0) (zero-mul g) ∙ ap (λ (x : ℕ). bit_xor x 0) zero_over)
            (ap (λ (x : ℕ). bit_xor (x / 2 ^ d) 1) (one-mul g) ∙ ap (λ (x : ℕ). bit_xor x 1) hg)
          where
            zero_over : 0 / 2 ^ d ≡ 0
            zero_over = let l : 0 / 2 ^ d < 1 = (div-lt_iff_lt-mul (pow_pos d)).1 (subst (λ (x : ℕ). 0 < x) (sym (one-mul (2 ^ d))) (pow_pos d)) in omega arith

    pub remainder_lt : (n p : ℕ) → remainder d g n p < 2 ^ d
    unfolding remainder
    remainder_lt zero p = pow_pos d
    remainder_lt (suc n) p = reduce_lt (remainder d g n (p / 2) * 2 + p % 2) (down (remainder d g n (p / 2)) (p % 2) (remainder_lt n (p / 2)) (mod-lt p (zero-lt-suc 1)))

    -- the remainder of a sum is the sum of the remainders
    pub remainder_xor : (n a b : ℕ) → remainder d g n (bit_xor a b) ≡ bit_xor (remainder d g n a) (remainder d g n b)
    unfolding remainder
    remainder_xor zero a b = refl
    remainder_xor (suc n) a b =
        ap₂ (λ (x y : ℕ). reduce d g (x * 2 + y))
        (ap (remainder d g n) (xor_shr a b 1) ∙ remainder_xor n (a / 2) (b / 2))
        (xor_mod a b 1)
        ∙ ap (reduce d g) (sym (xor_block 1 (remainder d g n (a / 2)) (remainder d g n (b / 2)) (a % 2) (b % 2) (mod-lt a (zero-lt-suc 1)) (mod-lt b (zero-lt-suc 1))))
        ∙ reduce_xor (remainder d g n (a / 2) * 2 + a % 2) (remainder d g n (b / 2) * 2 + b % 2)
        (down (remainder d g n (a / 2)) (a % 2) (remainder_lt n (a / 2)) (mod-lt a (zero-lt-suc 1)))
        (down (remainder d g n (b / 2)) (b % 2) (remainder_lt n (b / 2)) (mod-lt b (zero-lt-suc 1)))

  -- what is of lower degree than g is its own remainder
  pub remainder_low : (n p : ℕ) → p < 2 ^ d → p < 2 ^ n → remainder d g n p ≡ p
  unfolding remainder
  remainder_low zero p hd hp = sym (lt-one hp)
  remainder_low (suc n) p hd hp =
      ap (λ (x : ℕ). reduce d g (x * 2 + p % 2)) (remainder_low n (p / 2) (lt_of_le_of_lt (div-le_self p 2) hd) (half p n hp))
      ∙ ap (reduce d g) (div-add-mod' p 2)
      ∙ reduce_low p hd

  -- zeros in front change nothing
  pub leading_zeros : (k n p : ℕ) → p < 2 ^ n → remainder d g (k + n) p ≡ remainder d g n p
  unfolding remainder
  leading_zeros k zero p h = ap (remainder d g (k + 0)) (lt-one h) ∙ remainder_low (k + 0) 0 (pow_pos d) (pow_pos (k + 0))
  leading_zeros k (suc n) p h =
      ap (λ (m : ℕ). remainder d g m p) (add-suc k n)
      ∙ ap (λ (x : ℕ). reduce d g (x * 2 + p % 2)) (leading_zeros k n (p / 2) (half p n h))

  -- times x brings a zero down
  times_x : (k n p : ℕ) → remainder d g (n + suc k) (p * 2 ^ suc k) ≡ reduce d g (remainder d g (n + k) (p * 2 ^ k) * 2 + 0)
  unfolding remainder
  times_x k n p =
      ap (λ (m : ℕ). remainder d g m (p * 2 ^ suc k)) (add-suc n k)
      ∙ ap₂ (λ (x y : ℕ). reduce d g (remainder d g (n + k) x * 2 + y)) (shifted_half p k) (shifted_even p k)

  -- times x^k: a remainder may be taken before the shift or after it
  pub shifting : g / 2 ^ d ≡ 1 → (k n p : ℕ) → remainder d g (n + k) (p * 2 ^ k) ≡ remainder d g (d + k) (remainder d g n p * 2 ^ k)
  shifting hg zero n p =
      ap₂ (remainder d g) (add-zero n) (mul-one p)
      ∙ sym (ap₂ (remainder d g) (add-zero d) (mul-one (remainder d g n p)) ∙ remainder_low d (remainder d g n p) (remainder_lt hg n p) (remainder_lt hg n p))
  shifting hg (suc k) n p =
      times_x k n p
      ∙ ap (λ (x : ℕ). reduce d g (x * 2 + 0)) (shifting hg k n p)
      ∙ sym (times_x k d (remainder d g n p))

  -- g, which is odd, divides p * x^k only where it divides p
  module _ (hg : g / 2 ^ d ≡ 1) (odd : g % 2 ≡ 1) where
    reduce_shift : (r : ℕ) → r < 2 ^ d → reduce d g (r * 2 + 0) ≡ 0 → r ≡ 0
    unfolding reduce
    reduce_shift r h e =
        bit_cases (λ p. p * g ≡ r * 2 + 0 → r ≡ 0) ((r * 2 + 0) / 2 ^ d) (top (r * 2 + 0) (down r 0 h (zero-lt-suc 1)))
        (λ q. let z : 0 * g ≡ 0 = zero-mul g in omega arith)
        (λ q. let z : 1 * g ≡ g = one-mul g in omega arith)
        (xor_eq ((r * 2 + 0) / 2 ^ d * g) (r * 2 + 0) e)

    pub divides_shift : (k n p : ℕ) → remainder d g (n + k) (p * 2 ^ k) ≡ 0 → remainder d g n p ≡ 0
    divides_shift zero n p e = sym (ap₂ (remainder d g) (add-zero n) (mul-one p)) ∙ e
    divides_shift (suc k) n p e =
        divides_shift k n p
        (reduce_shift (remainder d g (n + k) (p * 2 ^ k)) (remainder_lt hg (n + k) (p * 2 ^ k)) (sym (times_x k n p) ∙ e))
