-- A frame on air by its four words, as the code works them out. Assumes nothing.
use mathlib.Core.Path.{◌≡◌, sym, ap, ◌∙◌}
use mathlib.Core.List.{List, [], ◌∷◌}
use Prim.Native.Nat.{ℕ, ◌+◌, ◌*◌, ◌/◌, ◌%◌, ◌^◌}
use native.Mathlib.Omega.{arith}
use Rattle.laws.specs.Bits.{at, bits_of, bits}
use Rattle.laws.proofs.Words.{bits_join, at_word}
use Rattle.block.specs.Block.{offset_of, check_word}
use Rattle.block.specs.declared.Letter.{Letter}
use Rattle.block.specs.declared.Letter.TheVariants.{A, B, C, D}
use Rattle.block.proofs.Validity.{check_word_small}
use Rattle.frame.specs.declared.Heading.{Heading}
use Rattle.frame.specs.Heading.{Fits}
use Rattle.frame.specs.OnAir.{block_bits, frame_bits, air_bytes}
use Rattle.frame.proofs.Back.{bytes_of}
use Rattle.air.specs.OnAir.{carried, frame_of}
use Rattle.air.specs.Packed.{packed, first_word, WordOf}

-- the 26 bits of a block as one number
abbrev pub block_number : ℕ → Letter → ℕ
block_number w l = w * 2 ^ 10 + check_word w (offset_of l)

block_bits_lem : (w : ℕ) (l : Letter) → block_bits w l ≡ bits_of 26 (block_number w l)
unfolding block_bits
block_bits_lem w l = sym (bits_join 16 10 w (check_word w (offset_of l)) (check_word_small w l))

-- eight bytes on air by their four words
by_words : (f : List ℕ) (a b c d : ℕ) → at (bits f) 0 16 ≡ a → at (bits f) 16 16 ≡ b → at (bits f) 32 16 ≡ c → at (bits f) 48 16 ≡ d → air_bytes f ≡ packed (block_number a A) (block_number b B) (block_number c C) (block_number d D)
unfolding air_bytes frame_bits packed
by_words f a b c d ea eb ec ed = rw (ea, eb, ec, ed, block_bits_lem a A, block_bits_lem b B, block_bits_lem c C, block_bits_lem d D)

module _ (p : List ℕ) (h : Heading) (f : Fits h) (c d : ℕ) (x : WordOf (carried p (4 * h.number.0)) (carried p (4 * h.number.0 + 1)) c) (y : WordOf (carried p (4 * h.number.0 + 2)) (carried p (4 * h.number.0 + 2 + 1)) d) where
  eight : List ℕ
  eight =
      (h.level * 32 + h.version)
      ∷ (h.total.0 * 4 + h.number.0 / 16)
      ∷ 0xB0
      ∷ (h.number.0 % 16)
      ∷ carried p (4 * h.number.0)
      ∷ carried p (4 * h.number.0 + 1)
      ∷ carried p (4 * h.number.0 + 2)
      ∷ carried p (4 * h.number.0 + 2 + 1)
      ∷ []

  are_eight : frame_of p h ≡ eight
  unfolding frame_of eight
  are_eight = let e : 4 * h.number.0 + 3 ≡ 4 * h.number.0 + 2 + 1 = omega arith in rw (bytes_of h f, e)

  pub frame_packed : air_bytes (frame_of p h) ≡ packed (block_number (first_word h) A) (block_number (0xB000 + h.number.0 % 16) B) (block_number c C) (block_number d D)
  unfolding eight first_word
  frame_packed =
      let fl = f.level in
      let fv = f.version in
      let ft = f.total in
      let fn = f.number in
      ap air_bytes are_eight
      ∙ by_words eight (first_word h) (0xB000 + h.number.0 % 16) c d
      (at_word eight 0 (omega arith) (omega arith))
      (at_word eight 2 (omega arith) (omega arith) ∙ omega arith)
      (at_word eight 4 x.high_small x.low_small ∙ sym x.word)
      (at_word eight 6 y.high_small y.low_small ∙ sym y.word)
