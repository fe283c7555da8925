-- The heading of a frame (paper 01, "Frame heading"; 000, table 22), read from the frame's bits.
-- Block 1: level 3 bits, version 5, total 6, number's high 2. Block 2: 10110, 000000, 0, number's low 4.
use Rattle.std.specs.Prelude.{Result, Bool, cond, not, ◌&&◌, ◌||◌, List, [], ◌∷◌, ◌++◌, ℕ, ◌+◌, ◌*◌, ◌/◌, ◌%◌, ◌^◌, ◌<◌, length, eqb, leb}
use Rattle.laws.specs.Bits.{at, bits_of, bits, bytes}
use Rattle.laws.specs.Refusals.{Case, first}
use Rattle.frame.specs.declared.Total.{Total}
use Rattle.frame.specs.declared.Number.{Number}
use Rattle.frame.specs.declared.Heading.{Heading}
use Rattle.refusal.specs.declared.Refusal.{Refusal}
use Rattle.refusal.specs.Refusal.{answer_of, value_or}

-- ---- what the bits say

-- the first three bits of block 1 (000, table 22)
abbrev pub level_of : List ℕ → ℕ
level_of f = at (bits f) 0 3

-- the next five
abbrev pub version_of : List ℕ → ℕ
version_of f = at (bits f) 3 5

-- the next six
abbrev pub total_of : List ℕ → Total
total_of f = record { 0 = at (bits f) 8 6 }

-- its high bits end block 1, its low bits end block 2
abbrev pub number_of : List ℕ → Number
number_of f = record { 0 = at (bits f) 14 2 * 2 ^ 4 + at (bits f) 28 4 }

-- block 2 begins 10110, 000000, 0
unfoldable pub fixed : List ℕ → Bool
fixed f = eqb (at (bits f) 16 5) 0b10110 && (eqb (at (bits f) 21 6) 0 && eqb (at (bits f) 27 1) 0)

-- ---- whether it is accepted

-- levels 0 and 7 are reserved, and none is above (01, Frame heading)
unfoldable pub reserved : ℕ → Bool
reserved level = eqb level 0 || leb 7 level

-- the total counts from 1, the number from 0
unfoldable pub outside : Total → Number → Bool
outside total number = eqb total.0 0 || leb total.0 number.0

-- 26, 12, 13, 14, in this order (01, Numbers given back)
unfoldable pub refusals : List ℕ → List Case
refusals f =
    (not (eqb (length f) 8), 26)
    ∷ (not (fixed f), 12)
    ∷ (reserved (level_of f), 13)
    ∷ (outside (total_of f) (number_of f), 14)
    ∷ []

-- the four fields together (01, Frame heading)
unfoldable pub heading_fields : List ℕ → Heading
heading_fields f = record { level = level_of f; version = version_of f; total = total_of f; number = number_of f }

-- beside a refusal every field is zero (01, Numbers given back)
abbrev pub no_heading : Heading
no_heading = record { level = 0; version = 0; total = record { 0 = 0 }; number = record { 0 = 0 } }

-- a number given back and a heading, as a result tells them
pub record Headed : Type 0 where
  pub answer : ℕ
  pub heading : Heading

abbrev pub told : Result Heading Refusal → Headed
told r = record { answer = answer_of r; heading = value_or no_heading r }

-- the answer, and the fields where it is 0
unfoldable pub heading_of : List ℕ → Headed
heading_of f =
    record {
      answer = first (refusals f);
      heading = cond (eqb (first (refusals f)) 0) (heading_fields f) no_heading;
    }

-- the heading is accepted (01, Frame heading)
unfoldable pub accepted : List ℕ → Bool
accepted f = eqb (heading_of f).answer 0

-- its fields are in the widths that they have on air (000, table 22)
pub record Fits (h : Heading) : Type 0 where
  pub level : h.level < 8
  pub version : h.version < 32
  pub total : h.total.0 < 64
  pub number : h.number.0 < 64

-- ---- the other way: the 32 bits of blocks 1 and 2, as two words and as four bytes

-- the fields in the order and widths of the table, the fixed bits between them (000, table 22)
unfoldable pub heading_bits : Heading → List ℕ
heading_bits h =
    bits_of 3 h.level
    ++ (bits_of 5 h.version
    ++ (bits_of 6 h.total.0
    ++ (bits_of 2 (h.number.0 / 2 ^ 4) ++ (bits_of 5 0b10110 ++ (bits_of 6 0 ++ (bits_of 1 0 ++ bits_of 4 (h.number.0 % 2 ^ 4)))))))

-- the information words of blocks 1 and 2 (01, Frame heading)
unfoldable pub heading_words : Heading → ℕ × ℕ
heading_words h = (at (heading_bits h) 0 16, at (heading_bits h) 16 16)

-- the same bits as bytes
unfoldable pub heading_bytes : Heading → List ℕ
heading_bytes h = bytes (heading_bits h)
