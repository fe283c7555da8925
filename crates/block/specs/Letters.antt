-- Which of the five letters of RDS 26 bits carry (paper 02, K2; 000, 7.1.4 and annex A).
use Rattle.std.specs.Prelude.{Option, Some, None, Bool, cond, ℕ, ◌/◌, ◌%◌, eqb}
use Rattle.block.specs.declared.Letter.{Letter}
use Rattle.block.specs.declared.Letter.TheVariants as frame
use Rattle.block.specs.declared.AnyLetter.{AnyLetter}
use Rattle.block.specs.declared.AnyLetter.TheVariants.{A, B, C, CPrime, D}
use Rattle.block.specs.Block.{offset_of, carries}

-- a frame's letter among the five
abbrev pub any_of : Letter → AnyLetter
any_of frame.A = A
any_of frame.B = B
any_of frame.C = C
any_of frame.D = D

-- the offset words of the five; that of C' is 0x350
abbrev pub offset_of_any : AnyLetter → ℕ
offset_of_any A = offset_of frame.A
offset_of_any B = offset_of frame.B
offset_of_any C = offset_of frame.C
offset_of_any CPrime = 0x350
offset_of_any D = offset_of frame.D

-- the bits are a block of the letter: their check bits are those of their information with the letter's offset
unfoldable pub fits : ℕ → AnyLetter → Bool
fits bits letter = carries bits (offset_of_any letter)

-- the first of the five that passes a test, or none
unfoldable pub first_of : (AnyLetter → Bool) → Option AnyLetter
first_of passes =
    cond (passes A) (Some A)
    (cond (passes B) (Some B)
    (cond (passes C) (Some C)
    (cond (passes CPrime) (Some CPrime)
    (cond (passes D) (Some D) None))))

-- the letter that the bits carry; `at_most_one` says that it does not matter which is looked at first
unfoldable pub letter_of : ℕ → Option AnyLetter
letter_of bits = first_of (fits bits)

-- the letter that has the offset word
unfoldable pub letter_with : ℕ → Option AnyLetter
letter_with offset = first_of (λ letter. eqb offset (offset_of_any letter))

-- the one letter that an offset word can have, by three of its bits (ours, between functions)
unfoldable pub likely_of : ℕ → AnyLetter
likely_of offset =
    cond (eqb (offset / 32 % 8) 2) CPrime
    (cond (eqb (offset / 32 % 8) 3) C
    (cond (eqb (offset / 32 % 8) 4) B
    (cond (eqb (offset / 32 % 8) 5) D A)))

-- which block of a frame, 1 to 4, carries the letter; 5 for C', which stands in no frame of ours, and 0 for none (paper 01, "Blocks")
abbrev pub place_of : Option AnyLetter → ℕ
place_of None = 0
place_of (Some A) = 1
place_of (Some B) = 2
place_of (Some C) = 3
place_of (Some D) = 4
place_of (Some CPrime) = 5
