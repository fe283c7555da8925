-- The packet's size by its first two bytes, and its bounds. Assumes nothing.
use mathlib.Core.Path.{◌≡◌, ap, ◌∙◌}
use mathlib.Core.List.{List}
use Prim.Native.Nat.{ℕ, ◌+◌, ◌*◌, ◌%◌, ◌^◌, ◌<◌}
use native.Mathlib.Omega.{arith}
use lib.ListN.{get_or}
use Rattle.laws.specs.Bits.{bits}
use Rattle.laws.proofs.Bits.{at_small}
use Rattle.laws.proofs.ByteFields.{at_byte, at_parts}
use Rattle.size.specs.Size.{length_field, packet_size}

pub size_bytes : (b : List ℕ) → packet_size b ≡ get_or b 0 0 % 8 * 256 + get_or b 1 0 % 256 + 2
unfolding packet_size
size_bytes b =
    ap (λ (n : ℕ). n + 2) (at_parts (bits b) 5 3 8 ∙ omega (arith, at_byte b 0 5 3 (omega arith), at_byte b 1 0 8 (omega arith)))

-- the field has eleven bits
pub size_most : (b : List ℕ) → packet_size b < 2050
unfolding packet_size
size_most b = let h : length_field b < 2 ^ 11 = at_small b 5 11 11 (omega arith) in omega arith
