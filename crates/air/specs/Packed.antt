-- What the functions under the on-air writer ask of each other and give.
use Rattle.std.specs.Prelude.{◌≡◌, List, ◌++◌, ℕ, ◌+◌, ◌*◌, ◌/◌, ◌<◌, ◌≤◌, length}
use Rattle.laws.specs.Bits.{bits_of, bytes}
use Rattle.crc.specs.Crc16.{crc16}
use Rattle.frame.specs.declared.Heading.{Heading}
use Rattle.air.specs.OnAir.{frames_for}

-- four numbers of 26 bits, one behind the other, as bytes (01, Blocks)
unfoldable pub packed : ℕ → ℕ → ℕ → ℕ → List ℕ
packed a b c d = bytes (bits_of 26 a ++ (bits_of 26 b ++ (bits_of 26 c ++ bits_of 26 d)))

-- the word of block 1 (000, table 22)
unfoldable pub first_word : Heading → ℕ
first_word h = (h.level * 32 + h.version) * 256 + (h.total.0 * 4 + h.number.0 / 16)

-- two bytes and their word (ours, between functions)
pub record WordOf (high low r : ℕ) : Type 0 where
  pub word : r ≡ high * 256 + low
  pub high_small : high < 256
  pub low_small : low < 256

-- a part of the output for one frame, and a packet with its check (ours, between functions)
pub record Room (out packet : List ℕ) (check : ℕ) : Type 0 where
  pub wide : 13 ≤ length out
  pub right : check ≡ crc16 packet
  pub short : length packet ≤ 250

-- a packet and a heading that none of 20, 13, 27 and 10 refuses (01, on-air writer)
pub record Sendable (packet : List ℕ) (level version : ℕ) (out : List ℕ) : Type 0 where
  pub short : length packet ≤ 250
  pub level_small : level < 7
  pub version_small : version < 32
  pub room : 13 * frames_for (length packet) ≤ length out
