-- Worked examples of a heading and of a frame on air, computed on the definitions. The cases that paper 01 marks P stand in `promises:Pier`.
use Rattle.std.specs.Prelude.{◌≡◌, refl, [], ◌∷◌}
use Rattle.laws.specs.Bits.{at, bits_of, run, spread}
use Rattle.laws.specs.Refusals.{first}
use Rattle.laws.specs.Poly.{reduce, remainder}
use Rattle.block.specs.Block.{syndrome, check_word}
use Rattle.frame.specs.Heading.{fixed, reserved, outside, refusals, heading_fields, heading_of}
use Rattle.frame.specs.OnAir.{block_bits, frame_bits, air_bytes}

-- number 62 of 63 is the last there is; 63 of 63 is none
pub last_number : (heading_of (0x20 ∷ 0xFF ∷ 0xB0 ∷ 0x0E ∷ 1 ∷ 2 ∷ 3 ∷ 4 ∷ [])).answer ≡ 0
unfolding heading_of refusals heading_fields fixed reserved outside first at bits_of spread
last_number = refl

pub past_last : (heading_of (0x20 ∷ 0xFF ∷ 0xB0 ∷ 0x0F ∷ 1 ∷ 2 ∷ 3 ∷ 4 ∷ [])).answer ≡ 14
unfolding heading_of refusals heading_fields fixed reserved outside first at bits_of spread
past_last = refl

-- the listing program's example: eight bytes of zero on air
pub zeros_on_air : air_bytes (0 ∷ 0 ∷ 0 ∷ 0 ∷ 0 ∷ 0 ∷ 0 ∷ 0 ∷ []) ≡ 0x00 ∷ 0x00 ∷ 0x3F ∷ 0x00 ∷ 0x00 ∷ 0x19 ∷ 0x80 ∷ 0x00 ∷ 0x05 ∷ 0xA0 ∷ 0x00 ∷ 0x01 ∷ 0xB4 ∷ []
unfolding air_bytes frame_bits block_bits check_word syndrome remainder reduce at bits_of spread run
zeros_on_air = refl
