-- The size that a packet says of itself (paper 01, "Packet": type 5 bits, length 11 bits, and it is P − 2).
use Rattle.std.specs.Prelude.{List, ℕ, ◌+◌}
use Rattle.laws.specs.Bits.{at, bits}

-- L: the eleven bits behind the five of the type
abbrev pub length_field : List ℕ → ℕ
length_field b = at (bits b) 5 11

-- P: the field counts all but the first two bytes
unfoldable pub packet_size : List ℕ → ℕ
packet_size b = length_field b + 2
