-- A record of the shelf (paper 02, K6): 256 bytes, being level, version, P in two bytes high first, 250 bytes (packet, then 0xFF), two zero bytes.
use Rattle.std.specs.Prelude.{Bool, not, ◌&&◌, List, [], ◌∷◌, ◌++◌, ℕ, ◌+◌, ◌-◌, ◌*◌, ◌/◌, ◌%◌, length, get_or, take, drop, replicate, eqb, leb}
use Rattle.laws.specs.Bits.{at, bits}
use Rattle.laws.specs.Scan.{all}
use Rattle.frame.specs.Heading.{reserved}
use Rattle.size.specs.Size.{packet_size}

-- ---- what a record says

abbrev pub level_in : List ℕ → ℕ
level_in r = get_or r 0 0

abbrev pub version_in : List ℕ → ℕ
version_in r = get_or r 1 0

-- P
abbrev pub size_in : List ℕ → ℕ
size_in r = get_or r 2 0 * 256 + get_or r 3 0

-- P bytes behind the four
abbrev pub packet_in : List ℕ → List ℕ
packet_in r = take (size_in r) (drop 4 r)

-- what is left of the 250 behind the packet
abbrev pub fill_in : List ℕ → List ℕ
fill_in r = take (250 - size_in r) (drop (4 + size_in r) r)

-- the last two of 256
abbrev pub closing_in : List ℕ → List ℕ
closing_in r = take 2 (drop 254 r)

-- the type of the packet: its first five bits (01, Packet)
abbrev pub type_in : List ℕ → ℕ
type_in r = at (bits r) 32 5

-- level 1 to 6, version 31 at most, P 2 to 250 and the packet's length field plus 2, fill and closing bytes right
unfoldable pub right : List ℕ → Bool
right r =
    not (reserved (level_in r))
    && (leb (version_in r) 31
    && (leb 2 (size_in r)
    && (leb (size_in r) 250 && (eqb (size_in r) (packet_size (packet_in r)) && (all (eqb 0xFF) (fill_in r) && all (eqb 0) (closing_in r))))))

-- ---- how one is made

-- the record of a whole packet
unfoldable pub record_of : ℕ → ℕ → List ℕ → List ℕ
record_of level version packet =
    level ∷ version ∷ length packet / 256 ∷ length packet % 256 ∷ packet ++ (replicate (250 - length packet) 0xFF ++ (0 ∷ 0 ∷ []))
