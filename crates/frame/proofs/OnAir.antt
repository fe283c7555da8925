-- What a frame's bytes on air are as bits, and those of frames one after the other. Assumes nothing.
use mathlib.Core.Path.{◌≡◌, refl, sym, ap, ◌∙◌}
use mathlib.Core.List.{List, [], ◌∷◌, ◌++◌, append_assoc, append-nil}
use Prim.Native.Nat.{ℕ, ◌+◌, ◌*◌, ◌/◌, ◌^◌}
use native.Mathlib.Omega.{arith}
use lib.ListN.{length, length-append}
use lib.Seq.{take_all}
use Rattle.laws.specs.Bits.{at, bits_of, run, spread, bits, bytes}
use Rattle.laws.proofs.Bits.{Under, length_bits_of, length_spread, length_run, under_append, under_bits_of, under_spread, bits_bytes, bytes_bits, spread_run, spread_append}
use Rattle.laws.proofs.Words.{bits_join}
use Rattle.block.specs.Block.{offset_of, check_word}
use Rattle.block.specs.declared.Letter.{Letter}
use Rattle.block.specs.declared.Letter.TheVariants.{A, B, C, D}
use Rattle.block.proofs.Validity.{check_word_small}
use Rattle.frame.specs.OnAir.{block_bits, frame_bits, air_bytes, stream_of}

-- the bits of bytes one behind another
pub bits_append : (a b : List ℕ) → bits (a ++ b) ≡ bits a ++ bits b
bits_append a b = spread_append 8 a b

module _ (w : ℕ) (x : Letter) where
  -- a block's bits are those of one number
  pub block_number : block_bits w x ≡ bits_of 26 (w * 2 ^ 10 + check_word w (offset_of x))
  unfolding block_bits
  block_number = sym (bits_join 16 10 w (check_word w (offset_of x)) (check_word_small w x))

  pub length_block : length (block_bits w x) ≡ 26
  length_block = ap length block_number ∙ length_bits_of 26 (w * 2 ^ 10 + check_word w (offset_of x))

  under_block : Under 2 (block_bits w x)
  unfolding block_bits
  under_block = under_append 2 (bits_of 16 w) (bits_of 10 (check_word w (offset_of x))) (under_bits_of 16 w) (under_bits_of 10 (check_word w (offset_of x)))

module _ (f : List ℕ) where
  -- the four information words
  abbrev pub word_at : ℕ → ℕ
  word_at p = at (bits f) p 16

  abbrev pub block : ℕ → Letter → List ℕ
  block p x = block_bits (word_at p) x

  pub length_frame : length (frame_bits f) ≡ 104
  unfolding frame_bits
  length_frame =
      omega (
        arith,
        length-append (block 0 A) (block 16 B ++ (block 32 C ++ block 48 D)),
        length-append (block 16 B) (block 32 C ++ block 48 D),
        length-append (block 32 C) (block 48 D),
        length_block (word_at 0) A,
        length_block (word_at 16) B,
        length_block (word_at 32) C,
        length_block (word_at 48) D,
      )

  under_frame : Under 2 (frame_bits f)
  unfolding frame_bits
  under_frame =
      under_append 2 (block 0 A) (block 16 B ++ (block 32 C ++ block 48 D)) (under_block (word_at 0) A)
      (under_append 2 (block 16 B) (block 32 C ++ block 48 D) (under_block (word_at 16) B)
      (under_append 2 (block 32 C) (block 48 D) (under_block (word_at 32) C) (under_block (word_at 48) D)))

  -- thirteen bytes
  pub length_air : length (air_bytes f) ≡ 13
  unfolding air_bytes
  length_air = length_run (frame_bits f) 0 (length (frame_bits f) / 8) 8 ∙ omega (arith, length_frame)

  -- and their bits are the frame's
  pub air_bits : bits (air_bytes f) ≡ frame_bits f
  unfolding air_bytes
  air_bits = bits_bytes (frame_bits f) under_frame (let e = length_frame in omega arith)

  -- the information of the four blocks, put together, is the frame
  pub information : length f ≡ 8 → Under 256 f
      → bytes (((bits_of 16 (word_at 0) ++ bits_of 16 (word_at 16)) ++ bits_of 16 (word_at 32)) ++ bits_of 16 (word_at 48)) ≡ f
  unfolding spread run
  information n u =
      let s = length_spread 8 f in
      ap bytes (four (bits_of 16 (word_at 0)) (bits_of 16 (word_at 16)) (bits_of 16 (word_at 32)) (bits_of 16 (word_at 48)) ∙ together ∙ spread_run (bits f) 0 4 16 (under_spread 8 f) (omega arith) ∙ take_all 64 (bits f) (omega arith))
      ∙ bytes_bits f u
    where
      four : (a b c d : List ℕ) → ((a ++ b) ++ c) ++ d ≡ a ++ (b ++ (c ++ (d ++ [])))
      four a b c d = simp (append_assoc, append-nil)

      together : bits_of 16 (word_at 0) ++ (bits_of 16 (word_at 16) ++ (bits_of 16 (word_at 32) ++ (bits_of 16 (word_at 48) ++ []))) ≡ spread 16 (run (bits f) 0 4 16)
      together = refl

pub stream_bits : (f : List ℕ) (fs : List (List ℕ)) → bits (stream_of (f ∷ fs)) ≡ frame_bits f ++ bits (stream_of fs)
unfolding stream_of
stream_bits f fs = bits_append (air_bytes f) (stream_of fs) ∙ ap (λ (l : List ℕ). l ++ bits (stream_of fs)) (air_bits f)
