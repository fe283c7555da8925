-- The packet check is a polynomial remainder. Assumes nothing.
use mathlib.Core.Path.{◌≡◌, refl, sym, ap, ap₂, ◌∙◌, subst}
use mathlib.Core.List.{List, [], ◌∷◌}
use Prim.Native.Nat.{ℕ, suc, ◌+◌, ◌*◌, ◌^◌, ◌≤◌, ◌<◌}
use native.Mathlib.Nat.{add-zero, mul-one, mul_assoc, mul_comm, lt_of_lt_of_le}
use native.Mathlib.Omega.{arith}
use lib.Pow.{pow_mono, pow-add, shl_lt}
use lib.ListN.{length}
use lib.Bits.{xor_lt, xor_zero_r}
use Rattle.laws.specs.Poly.{◌⊕◌, remainder, IsRemainder}
use Rattle.laws.proofs.Bits.{Under}
use Rattle.laws.proofs.Linear.{linear_up}
use Rattle.laws.proofs.Xor.{xor_assoc}
use Rattle.laws.proofs.Remainder.{remainder_xor, remainder_low, shifting}
use Rattle.laws.proofs.Division.{is_remainder, only_remainder}
use Rattle.crc.specs.Crc16.{generator, times_byte, taken, taken_all, crc16, message, dividend}

-- a byte taken in brings eight more coefficients down
byte_is : (m p b : ℕ) → 16 ≤ m → b < 256 → taken (remainder 16 generator m p) b ≡ remainder 16 generator (m + 8) ((p ⊕ b * 2 ^ 8) * 2 ^ 8)
unfolding taken times_byte
byte_is m p b hm hb =
    let l : b * 256 < 65536 = omega arith in
    ap (λ (x : ℕ). times_byte (remainder 16 generator m p ⊕ x)) (sym (remainder_low 16 generator m (b * 2 ^ 8) l (lt_of_lt_of_le l (pow_mono hm))))
    ∙ ap times_byte (sym (remainder_xor 16 generator refl m p (b * 2 ^ 8)))
    ∙ sym (shifting 16 generator refl 8 m (p ⊕ b * 2 ^ 8))

-- where the byte and those before it stand
places : (bs : List ℕ) (b p : ℕ) → (p ⊕ b * 2 ^ 8) * 2 ^ 8 * 2 ^ (8 * length bs) ⊕ message bs * 2 ^ 16 ≡ p * 2 ^ (8 * suc (length bs)) ⊕ message (b ∷ bs) * 2 ^ 16
unfolding message
places bs b p =
    ap (λ (x : ℕ). x * K ⊕ message bs * 2 ^ 16) (linear_up 8 p (b * 2 ^ 8))
    ∙ ap (λ (x : ℕ). x ⊕ message bs * 2 ^ 16) (linear_up (8 * length bs) (p * 2 ^ 8) (b * 2 ^ 8 * 2 ^ 8))
    ∙ xor_assoc (p * 2 ^ 8 * K) (b * 2 ^ 8 * 2 ^ 8 * K) (message bs * 2 ^ 16)
    ∙ ap₂ (λ (x y : ℕ). x ⊕ (y ⊕ message bs * 2 ^ 16)) high byte
    ∙ ap (λ (x : ℕ). p * 2 ^ (8 * suc (length bs)) ⊕ x) (sym (linear_up 16 (b * K) (message bs)))
  where
    K : ℕ
    K = 2 ^ (8 * length bs)

    high : p * 2 ^ 8 * K ≡ p * 2 ^ (8 * suc (length bs))
    high =
        let e : 8 + 8 * length bs ≡ 8 * suc (length bs) = omega arith in
        mul_assoc p (2 ^ 8) K ∙ ap (λ (x : ℕ). p * x) (sym (pow-add 2 8 (8 * length bs)) ∙ ap (λ (k : ℕ). 2 ^ k) e)

    byte : b * 2 ^ 8 * 2 ^ 8 * K ≡ b * K * 2 ^ 16
    byte =
        ap (λ (x : ℕ). x * K) (mul_assoc b (2 ^ 8) (2 ^ 8)) ∙ mul_assoc b (2 ^ 16) K
        ∙ ap (λ (x : ℕ). b * x) (mul_comm (2 ^ 16) K) ∙ sym (mul_assoc b K (2 ^ 16))

-- the register over all bytes
register_is : (bs : List ℕ) (m p : ℕ) → 16 ≤ m → Under 256 bs → taken_all (remainder 16 generator m p) bs ≡ remainder 16 generator (m + 8 * length bs) (p * 2 ^ (8 * length bs) ⊕ message bs * 2 ^ 16)
unfolding message
register_is [] m p hm u = sym (ap₂ (remainder 16 generator) (add-zero m) (xor_zero_r (p * 1) ∙ mul-one p))
register_is (b ∷ bs) m p hm u =
    let n : m + 8 + 8 * length bs ≡ m + 8 * suc (length bs) = omega arith in
    ap (λ (r : ℕ). taken_all r bs) (byte_is m p b hm (u 0))
    ∙ register_is bs (m + 8) ((p ⊕ b * 2 ^ 8) * 2 ^ 8) (omega arith) (λ i. u (suc i))
    ∙ ap₂ (remainder 16 generator) n (places bs b p)

-- by long division
pub crc16_is : (bs : List ℕ) → Under 256 bs → crc16 bs ≡ remainder 16 generator (16 + 8 * length bs) (dividend bs)
unfolding crc16 dividend
crc16_is bs u =
    ap (λ (r : ℕ). taken_all r bs) (sym (remainder_low 16 generator 16 0xFFFF (omega arith) (omega arith)))
    ∙ register_is bs 16 0xFFFF (omega arith) u

message_lt : (bs : List ℕ) → Under 256 bs → message bs < 2 ^ (8 * length bs)
unfolding message
message_lt [] u = omega arith
message_lt (b ∷ bs) u =
    let e : 8 + 8 * length bs ≡ 8 * suc (length bs) = omega arith in
    let l : 8 * length bs ≤ 8 * suc (length bs) = omega arith in
    xor_lt (8 * suc (length bs)) (b * 2 ^ (8 * length bs)) (message bs)
    (subst (λ (k : ℕ). b * 2 ^ (8 * length bs) < 2 ^ k) e (shl_lt 8 (8 * length bs) (u 0)))
    (lt_of_lt_of_le (message_lt bs (λ i. u (suc i))) (pow_mono l))

dividend_lt : (bs : List ℕ) → Under 256 bs → dividend bs < 2 ^ (16 + 8 * length bs)
unfolding dividend
dividend_lt bs u =
    let start : 0xFFFF < 2 ^ 16 = omega arith in
    xor_lt (16 + 8 * length bs) (0xFFFF * 2 ^ (8 * length bs)) (message bs * 2 ^ 16)
    (shl_lt 16 (8 * length bs) start)
    (subst (λ (k : ℕ). message bs * 2 ^ 16 < 2 ^ k) (let e : 8 * length bs + 16 ≡ 16 + 8 * length bs = omega arith in e) (shl_lt (8 * length bs) 16 (message_lt bs u)))

-- The packet check is the remainder of the bytes times x^16, their first 16 bits inverted by the start value: it has at most 16 bits, and some multiple of the generator and it make up the dividend.
pub packet_check_is_remainder : (bs : List ℕ) → Under 256 bs → IsRemainder 16 generator (dividend bs) (crc16 bs)
packet_check_is_remainder bs u =
    subst (IsRemainder 16 generator (dividend bs)) (sym (crc16_is bs u)) (is_remainder 16 generator refl (16 + 8 * length bs) (dividend bs) (dividend_lt bs u))

-- No other number is that remainder.
pub only_packet_check : (bs : List ℕ) (r : ℕ) → Under 256 bs → IsRemainder 16 generator (dividend bs) r → r ≡ crc16 bs
only_packet_check bs r u x =
    only_remainder 16 generator refl (16 + 8 * length bs) (dividend bs) r (dividend_lt bs u) x ∙ sym (crc16_is bs u)
