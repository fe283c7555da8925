-- The pier examples that paper 01 marks P (01, Pier examples), as one table; they stand nowhere else.
use Rattle.std.specs.Prelude.{Bool, ◌&&◌, List, [], ◌∷◌, ◌++◌, ℕ, ◌+◌, ◌*◌, get_or, replicate, eqb}
use Rattle.block.specs.Block.{offset_of, check_word}
use Rattle.block.specs.declared.Letter.TheVariants.{A, B}
use Rattle.frame.specs.declared.Heading.{Heading}
use Rattle.frame.specs.Heading.{heading_of, heading_words, heading_bytes}
use Rattle.air.specs.OnAir.{frames_for}
use Rattle.packet.specs.declared.Fields.{Fields}
use Rattle.packet.specs.Writing.{written, packet_output}
use Rattle.packet.specs.Examples.{text_sample, hold_sample}

-- level 5, version 3, total 20
abbrev pub numbered : ℕ → Heading
numbered n = record { level = 5; version = 3; total = record { 0 = 20 }; number = record { 0 = n } }

-- what an example says
pub data Example : Type 0 where
  -- the check word of an information word with an offset added
  check : (info offset word : ℕ) → Example
  -- blocks 1 and 2 of a heading
  blocks : (heading : Heading) (one two : ℕ) → Example
  -- the answer to a frame with this heading, whatever four bytes it carries
  headed : (heading : Heading) (answer : ℕ) → Example
  -- a packet that the writer takes: its size, and its first two bytes
  packet : (fields : Fields) (codes body : List ℕ) (size first second : ℕ) → Example
  -- one that it refuses, whatever is lent
  refused : (fields : Fields) (codes body : List ℕ) (answer : ℕ) → Example
  -- how many frames a packet of so many bytes takes, and how many bytes of fill
  frames : (size count fill : ℕ) → Example

-- it is so by the definitions that the contracts cite, with so much room lent where the example names none, in frames that carry these four bytes
unfoldable pub holds : ℕ → ℕ → ℕ → ℕ → ℕ → Example → Bool
holds room a b c d (check info offset word) = eqb (check_word info offset) word
holds room a b c d (blocks h one two) = eqb (heading_words h).0 one && eqb (heading_words h).1 two
holds room a b c d (headed h answer) = eqb (heading_of (heading_bytes h ++ (a ∷ b ∷ c ∷ d ∷ []))).answer answer
holds room a b c d (packet f codes body size first second) =
    eqb (written f codes body size).answer 0
    && (eqb (written f codes body size).length size
    && (eqb (get_or (packet_output f codes body (replicate size 0)) 0 0) first && eqb (get_or (packet_output f codes body (replicate size 0)) 1 0) second))
holds room a b c d (refused f codes body answer) = eqb (written f codes body room).answer answer
holds room a b c d (frames size count fill) = eqb (frames_for size) count && eqb (count * 4) (size + 2 + fill)

-- the cases in the order of the paper
unfoldable pub examples : List Example
examples =
    check 0x0000 (offset_of A) 0x0FC
    ∷ check 0x0001 0 0x1B9
    ∷ check 0x0001 (offset_of A) 0x145
    ∷ check 0x0002 (offset_of B) 0x2EA
    ∷ check 0x0003 0 0x2CB
    ∷ check 0x0004 0 0x35D
    ∷ blocks (numbered 17) 0xA351 0xB001
    ∷ headed (numbered 20) 14
    ∷ packet (text_sample 141) (replicate 23 1) (replicate 141 65) 250 0x78 0xF8
    ∷ frames 250 63 0
    ∷ refused (text_sample 142) (replicate 23 1) (replicate 142 65) 20
    ∷ packet hold_sample [] [] 79 0xA8 0x4D
    ∷ frames 79 21 3
    ∷ frames 78 20 0
    ∷ []
