-- A frame on air (paper 01, "Blocks"): its eight information bytes as four blocks of the letters A to D, 104 bits in 13 bytes.
use Rattle.std.specs.Prelude.{List, [], ◌∷◌, ◌++◌, ℕ}
use Rattle.laws.specs.Bits.{at, bits_of, bits, bytes}
use Rattle.block.specs.Block.{offset_of, check_word}
use Rattle.block.specs.declared.Letter.{Letter}
use Rattle.block.specs.declared.Letter.TheVariants.{A, B, C, D}

-- a block: sixteen bits of information, then ten of check (01, Blocks)
unfoldable pub block_bits : ℕ → Letter → List ℕ
block_bits word letter = bits_of 16 word ++ bits_of 10 (check_word word (offset_of letter))

-- the four blocks of a frame, each with its sixteen of the frame's 64 information bits
unfoldable pub frame_bits : List ℕ → List ℕ
frame_bits f =
    block_bits (at (bits f) 0 16) A
    ++ (block_bits (at (bits f) 16 16) B ++ (block_bits (at (bits f) 32 16) C ++ block_bits (at (bits f) 48 16) D))

-- its bytes on air
unfoldable pub air_bytes : List ℕ → List ℕ
air_bytes f = bytes (frame_bits f)

-- the air bytes of frames, one after the other
unfoldable pub stream_of : List (List ℕ) → List ℕ
stream_of [] = []
stream_of (f ∷ fs) = air_bytes f ++ stream_of fs
