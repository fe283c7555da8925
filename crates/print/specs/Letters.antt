-- The lines of the letters program (paper 02, K2): a place, the letter that 26 bits carry there, their information in hex.
use Rattle.std.specs.Prelude.{Option, Some, None, cond, List, [], ◌∷◌, ◌++◌, ℕ, zero, suc, ◌+◌, ◌/◌, ◌%◌, ◌^◌, length, drop, ltb, eqb}
use Rattle.block.specs.declared.AnyLetter.{AnyLetter}
use Rattle.block.specs.declared.AnyLetter.TheVariants.{A, B, C, D, CPrime}
use Rattle.block.specs.Letters.{letter_of, place_of}
use Rattle.print.specs.Lines.{glyph}

-- a number in decimal with no zero in front, of as many digits as k allows (ours, between functions)
unfoldable pub digits_of : ℕ → ℕ → List ℕ
digits_of zero n = []
digits_of (suc k) n = cond (ltb n 10) ((48 + n) ∷ []) (digits_of k (n / 10) ++ ((48 + n % 10) ∷ []))

-- a number below 2^64 has at most twenty
unfoldable pub number_text : ℕ → List ℕ
number_text n = digits_of 20 n

-- how much of a number is written, and what the output is then: nothing where there is no room for twenty digits
unfoldable pub number_written : ℕ → List ℕ → ℕ
number_written n out = cond (ltb (length out) 20) 0 (length (number_text n))

unfoldable pub number_into : ℕ → List ℕ → List ℕ
number_into n out = cond (ltb (length out) 20) out (number_text n ++ drop (length (number_text n)) out)

-- a space and the letter's name
unfoldable pub letter_text : Option AnyLetter → List ℕ
letter_text None = 32 ∷ []
letter_text (Some A) = 32 ∷ 65 ∷ []
letter_text (Some B) = 32 ∷ 66 ∷ []
letter_text (Some C) = 32 ∷ 67 ∷ []
letter_text (Some D) = 32 ∷ 68 ∷ []
letter_text (Some CPrime) = 32 ∷ 67 ∷ 39 ∷ []

-- a space, sixteen bits in upper-case hex, the line's end
unfoldable pub info_text : ℕ → List ℕ
info_text info = 32 ∷ glyph (info / 4096) ∷ glyph (info / 256 % 16) ∷ glyph (info / 16 % 16) ∷ glyph (info % 16) ∷ 10 ∷ []

-- the line of the bits at a place; there is none where they carry no letter (paper 02, K2)
unfoldable pub letter_line : ℕ → ℕ → List ℕ
letter_line place bits =
    cond (eqb (place_of (letter_of bits)) 0) []
    (number_text place ++ (letter_text (letter_of bits) ++ info_text (bits / 2 ^ 10)))

-- how much is written: the whole line, or nothing where there is no room for the longest (paper 02, K2)
unfoldable pub letter_written : ℕ → ℕ → List ℕ → ℕ
letter_written place bits out = cond (ltb (length out) 29) 0 (length (letter_line place bits))

-- the line at the start of the output, the rest as it was (paper 02, K2)
unfoldable pub letter_output : ℕ → ℕ → List ℕ → List ℕ
letter_output place bits out =
    cond (ltb (length out) 29) out (letter_line place bits ++ drop (length (letter_line place bits)) out)
