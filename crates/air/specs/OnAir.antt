-- The on-air writer (paper 01, "Numbers given back": on-air writer; 000, 6.3 and table 22): a packet as frames on air.
use Rattle.std.specs.Prelude.{Result, Bool, cond, not, ◌&&◌, List, [], ◌∷◌, ◌++◌, ℕ, zero, suc, ◌+◌, ◌*◌, ◌/◌, ◌%◌, ◌^◌, length, get_or, drop, eqb, leb, ltb}
use Rattle.laws.specs.Refusals.{Case, first}
use Rattle.crc.specs.Crc16.{crc16}
use Rattle.size.specs.Size.{packet_size}
use Rattle.frame.specs.declared.Total.{Total}
use Rattle.frame.specs.declared.Number.{Number}
use Rattle.frame.specs.declared.Heading.{Heading}
use Rattle.frame.specs.Heading.{reserved, heading_bytes}
use Rattle.frame.specs.OnAir.{stream_of}
use Rattle.refusal.specs.declared.Refusal.{Refusal}
use Rattle.refusal.specs.Refusal.{answer_of as answer_in, value_or}

-- how many frames P bytes take: the least N with 4N no less than P + 2 (01, on-air writer)
unfoldable pub frames_for : ℕ → ℕ
frames_for p = (p + 5) / 4

-- and so the total that each of them says
abbrev pub total_for : ℕ → Total
total_for p = record { 0 = frames_for p }

-- the packet, then its check, high byte first
unfoldable pub with_check : List ℕ → List ℕ
with_check packet = packet ++ (crc16 packet / 2 ^ 8 ∷ crc16 packet % 2 ^ 8 ∷ [])

-- byte i of what the frames carry: past the check it is fill, all ones
unfoldable pub carried : List ℕ → ℕ → ℕ
carried packet i = get_or (with_check packet) i 0xFF

-- the frame of a heading: its four bytes, then the four that its number names
unfoldable pub frame_of : List ℕ → Heading → List ℕ
frame_of packet h =
    heading_bytes h
    ++ (carried packet (4 * h.number.0) ∷ carried packet (4 * h.number.0 + 1) ∷ carried packet (4 * h.number.0 + 2) ∷ carried packet (4 * h.number.0 + 3) ∷ [])

-- the heading of a frame by its four fields (000, table 22)
abbrev pub heading_for : ℕ → ℕ → Total → Number → Heading
heading_for level version total number = record { level = level; version = version; total = total; number = number }

-- n frames from a number on (01, on-air writer)
unfoldable pub frames_from : List ℕ → ℕ → ℕ → Number → ℕ → List (List ℕ)
frames_from packet level version number zero = []
frames_from packet level version number (suc n) =
    frame_of packet (heading_for level version (total_for (length packet)) number) ∷ frames_from packet level version (record { 0 = number.0 + 1 }) n

-- all frames of a packet
unfoldable pub frames_of : List ℕ → ℕ → ℕ → List (List ℕ)
frames_of packet level version = frames_from packet level version (record { 0 = 0 }) (frames_for (length packet))

-- a packet of 2 to 250 bytes that says its size itself
unfoldable pub sized : List ℕ → Bool
sized packet = leb 2 (length packet) && (leb (length packet) 250 && eqb (length packet) (packet_size packet))

-- 20, 13, 27, 10, in this order
unfoldable pub cases : List ℕ → ℕ → ℕ → List ℕ → List Case
cases packet level version out =
    (not (sized packet), 20)
    ∷ (reserved level, 13)
    ∷ (ltb 31 version, 27)
    ∷ (ltb (length out) (13 * frames_for (length packet)), 10)
    ∷ []

-- the number given back (01, Numbers given back)
unfoldable pub answer_of : List ℕ → ℕ → ℕ → List ℕ → ℕ
answer_of packet level version out = first (cases packet level version out)

-- a number given back and a count of frames
pub record Aired : Type 0 where
  pub answer : ℕ
  pub frames : ℕ

-- the two that a result tells: beside a refusal the count is 0 (01, on-air writer)
abbrev pub told : Result ℕ Refusal → Aired
told r = record { answer = answer_in r; frames = value_or 0 r }

-- the count of frames beside 0, and 0 beside a refusal (01, on-air writer)
unfoldable pub aired_of : List ℕ → ℕ → ℕ → List ℕ → Aired
aired_of packet level version out =
    record {
      answer = answer_of packet level version out;
      frames = cond (eqb (answer_of packet level version out) 0) (frames_for (length packet)) 0;
    }

-- the frames' bytes from the output's first, the rest as it was; a refusal writes nothing
unfoldable pub aired_into : List ℕ → ℕ → ℕ → List ℕ → List ℕ
aired_into packet level version out =
    cond (eqb (answer_of packet level version out) 0)
    (stream_of (frames_of packet level version) ++ drop (13 * frames_for (length packet)) out)
    out
