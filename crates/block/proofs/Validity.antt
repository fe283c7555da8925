-- What the check bits and validity mean, in terms of the remainder alone. Assumes nothing.
use mathlib.Core.Path.{◌≡◌, refl, sym, ap, ap₂, ◌∙◌, subst}
use mathlib.Core.Logic.{◌↔◌}
use mathlib.Core.Bool.{true, ◌&&◌}
use Prim.Native.Nat.{ℕ, ◌+◌, ◌*◌, ◌/◌, ◌%◌, ◌^◌, ◌<◌}
use native.Mathlib.Nat.{mod-lt}
use native.Mathlib.Omega.{arith}
use borrow.Author.Tests.{eq-eqb, lt-ltb, eqb-true}
use lib.Dec.{eqb, ltb}
use lib.Pow.{pow_pos, split}
use lib.Bits.{xor_shifted, xor_zero_r, xor_lt}
use Rattle.laws.specs.Poly.{◌⊕◌, IsRemainder}
use Rattle.laws.proofs.Cases.{and_right}
use Rattle.laws.proofs.Xor.{xor_undo}
use Rattle.laws.proofs.Remainder.{remainder_lt, remainder_xor, remainder_low}
use Rattle.laws.proofs.Division.{is_remainder, only_remainder}
use Rattle.block.specs.declared.Letter.{Letter}
use Rattle.block.specs.declared.Letter.TheVariants.{A, B, C, D}
use Rattle.block.specs.Block.{generator, offset_of, syndrome, check_word, carries, is_valid}

-- The check word with no offset is the remainder of information times x^10: it has at most ten bits, and some multiple of the generator and it make up the dividend.
pub check_word_is_remainder : (info : ℕ) → info < 2 ^ 16 → IsRemainder 10 generator (info * 2 ^ 10) (check_word info 0)
unfolding check_word syndrome
check_word_is_remainder info h =
    subst (IsRemainder 10 generator (info * 2 ^ 10)) (sym (xor_zero_r (syndrome (info * 2 ^ 10)))) (is_remainder 10 generator refl 26 (info * 2 ^ 10) (omega arith))

-- No other number is that remainder.
pub only_check_word : (info r : ℕ) → info < 2 ^ 16 → IsRemainder 10 generator (info * 2 ^ 10) r → r ≡ check_word info 0
unfolding check_word syndrome
only_check_word info r h x =
    only_remainder 10 generator refl 26 (info * 2 ^ 10) r (omega arith) x ∙ sym (xor_zero_r (syndrome (info * 2 ^ 10)))

-- The remainder is linear, at 26 bits.
pub syndrome_xor : (a b : ℕ) → syndrome (a ⊕ b) ≡ syndrome a ⊕ syndrome b
unfolding syndrome
syndrome_xor = remainder_xor 10 generator refl 26

-- The remainder of an information word with ten bits behind it is that word's check bits and those.
pub syndrome_block : (info check : ℕ) → check < 1024 → syndrome (info * 2 ^ 10 + check) ≡ check_word info check
unfolding check_word syndrome
syndrome_block info check h =
    ap syndrome (sym (xor_shifted info 10 check h))
    ∙ syndrome_xor (info * 2 ^ 10) check
    ∙ ap (λ (x : ℕ). syndrome (info * 2 ^ 10) ⊕ x) (remainder_low 10 generator 26 check h (omega arith))

-- of any bits, by their two parts
pub by_parts : (bits : ℕ) → syndrome bits ≡ check_word (bits / 2 ^ 10) (bits % 2 ^ 10)
by_parts bits = ap syndrome (sym (split bits 10)) ∙ syndrome_block (bits / 2 ^ 10) (bits % 2 ^ 10) (mod-lt bits (pow_pos 10))

-- The remainder of what carries an offset is that offset.
pub carries_remainder : (bits offset : ℕ) → carries bits offset ≡ true → syndrome bits ≡ offset
unfolding carries check_word
carries_remainder bits offset t =
    let e : check_word (bits / 2 ^ 10) offset ≡ bits % 2 ^ 10 = eqb-true _ _ (and_right (ltb bits (2 ^ 26)) (eqb (check_word (bits / 2 ^ 10) offset) (bits % 2 ^ 10)) t) in
    by_parts bits
    ∙ ap (λ (x : ℕ). syndrome (bits / 2 ^ 10 * 2 ^ 10) ⊕ x) (sym e)
    ∙ xor_undo (syndrome (bits / 2 ^ 10 * 2 ^ 10)) offset

-- A valid block's remainder is the offset word of its letter.
pub valid_remainder : (bits : ℕ) (letter : Letter) → is_valid bits letter ≡ true → syndrome bits ≡ offset_of letter
unfolding is_valid
valid_remainder bits letter t = carries_remainder bits (offset_of letter) t

pub remainder_valid : (bits : ℕ) (letter : Letter) → bits < 2 ^ 26 → syndrome bits ≡ offset_of letter → is_valid bits letter ≡ true
unfolding is_valid carries check_word
remainder_valid bits letter h e =
    let f : check_word (bits / 2 ^ 10) (offset_of letter) ≡ bits % 2 ^ 10 =
    ap (λ (x : ℕ). syndrome (bits / 2 ^ 10 * 2 ^ 10) ⊕ x) (sym e ∙ by_parts bits)
    ∙ xor_undo (syndrome (bits / 2 ^ 10 * 2 ^ 10)) (bits % 2 ^ 10) in
    ap₂ ◌&&◌ (lt-ltb bits (2 ^ 26) h) (eq-eqb _ _ f)

-- Below 2^26 a number is a block of a letter exactly when its 26 bits leave that letter's offset word.
pub valid_is_remainder : (bits : ℕ) (letter : Letter) → bits < 2 ^ 26 → (is_valid bits letter ≡ true) ↔ (syndrome bits ≡ offset_of letter)
valid_is_remainder bits letter h = (valid_remainder bits letter, remainder_valid bits letter h)

-- The check bits with a letter's offset are ten.
pub check_word_small : (info : ℕ) (letter : Letter) → check_word info (offset_of letter) < 2 ^ 10
unfolding check_word syndrome
check_word_small info letter =
    xor_lt 10 (syndrome (info * 2 ^ 10)) (offset_of letter) (remainder_lt 10 generator refl 26 (info * 2 ^ 10)) (offset_small letter)
  where
    offset_small : (letter : Letter) → offset_of letter < 2 ^ 10
    offset_small A = omega arith
    offset_small B = omega arith
    offset_small C = omega arith
    offset_small D = omega arith

-- What is made of an information word and its check bits is a block of the letter.
pub made_valid : (info : ℕ) (letter : Letter) → info < 2 ^ 16 → is_valid (info * 2 ^ 10 + check_word info (offset_of letter)) letter ≡ true
unfolding check_word
made_valid info letter h =
    let c = check_word info (offset_of letter) in
    let small : c < 1024 = check_word_small info letter in
    remainder_valid (info * 2 ^ 10 + c) letter (omega arith) (syndrome_block info c small ∙ xor_undo (syndrome (info * 2 ^ 10)) (offset_of letter))
