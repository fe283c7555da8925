-- Whether joined bytes are a whole packet (paper 01, "Collector"): with L the length field, P = L + 2, of 4N bytes
-- 4N − P − 2 is 0 to 3, bytes P and P + 1 are the packet check of the P bytes, high byte first, and the rest is 0xFF.
use Rattle.std.specs.Prelude.{Bool, ◌&&◌, List, ℕ, ◌+◌, ◌*◌, length, get_or, take, drop, eqb, leb}
use Rattle.laws.specs.Scan.{all}
use Rattle.crc.specs.Crc16.{crc16}
use Rattle.size.specs.Size.{packet_size}

-- 4N − P − 2 is 0 to 3 (01, Collector)
unfoldable pub sized : List ℕ → Bool
sized b = leb (packet_size b + 2) (length b) && leb (length b) (packet_size b + 5)

-- bytes P and P + 1, high byte first, are the check of the P packet bytes only
unfoldable pub checked : List ℕ → Bool
checked b = eqb (crc16 (take (packet_size b) b)) (get_or b (packet_size b) 0 * 256 + get_or b (packet_size b + 1) 0)

-- a byte of the fill
abbrev pub is_fill : ℕ → Bool
is_fill x = eqb x 0xFF

-- the rest is 0xFF
unfoldable pub filled : List ℕ → Bool
filled b = all is_fill (drop (packet_size b + 2) b)

-- size, check and fill are right
unfoldable pub passes : List ℕ → Bool
passes b = sized b && (checked b && filled b)
