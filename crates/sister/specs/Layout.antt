-- What the functions under reader and writer ask of each other and give (ours, between functions).
use Rattle.std.specs.Prelude.{ℕ, ◌+◌, ◌*◌, List, [], ◌++◌, Bool, not, ◌&&◌}
use Rattle.laws.specs.Bits.{at, bits, bits_of}
use Rattle.format.specs.Format.{times, encode, fill, fine}
use Rattle.packet.specs.Table.{code, count_line}
use Rattle.packet.specs.Reading.{part_at}
use Rattle.sister.specs.declared.Kind.{Kind}
use Rattle.sister.specs.declared.Command.{Command}
use Rattle.sister.specs.declared.Command.TheVariants.{Clock}
use Rattle.sister.specs.declared.parts.Layout.{Layout}
use Rattle.sister.specs.Table.{row_for, content_bytes, address_count, code_count, parts_of, kind_for, count_for, no_day}

-- the bit at which the codes begin: behind tag, length, numbers, count and address
unfoldable pub codes_at : Kind → ℕ → ℕ
codes_at f k = 24 + part_at (row_for f) + 8 * address_count f k

-- where the parts of a command stand
abbrev pub layout_of : Kind → ℕ → Layout
layout_of f k = record { bytes = content_bytes f k; address = address_count f k; place = codes_at f k; codes = code_count f k }

-- the clock of a command, whatever its numbers are (003, table 9)
unfoldable pub clock_at : List ℕ → Command
clock_at b = Clock (at (bits b) 24 16) (at (bits b) 40 8) (at (bits b) 48 8) (at (bits b) 56 8) (at (bits b) 64 8) (at (bits b) 72 8)

-- the command's own numbers are in their ranges, and its day is one that the month has
unfoldable pub fields_fine : Command → Bool
fields_fine c = fine 27 (row_for (kind_for c)).before (fill (row_for (kind_for c)).before (parts_of c).numbers) && not (no_day c)

-- ---- bits: tag and length; the command's own numbers and its count; codes
abbrev pub head_bits : ℕ → ℕ → List ℕ
head_bits tag bytes = bits_of 8 tag ++ bits_of 16 bytes

-- by the row
unfoldable pub number_bits : Command → List ℕ
number_bits c =
    encode (row_for (kind_for c)).before (fill (row_for (kind_for c)).before (parts_of c).numbers)
    ++ encode (count_line (row_for (kind_for c)).counting (count_for c)) (fill (count_line (row_for (kind_for c)).counting (count_for c)) [])

-- n codes with these digits
unfoldable pub code_bits : ℕ → List ℕ → List ℕ
code_bits n codes = encode (times n code) (fill (times n code) codes)
