-- Worked examples of a line, computed on the definitions.
use Rattle.std.specs.Prelude.{◌≡◌, refl, [], ◌∷◌, ◌+◌, ◌*◌}
use Rattle.laws.specs.Poly.{reduce, remainder}
use Rattle.block.specs.Block.{syndrome, check_word, carries}
use Rattle.block.specs.Letters.{fits, first_of, letter_of}
use Rattle.print.specs.Lines.{hex_of, decimal_of, line_of}
use Rattle.print.specs.Letters.{digits_of, number_text, letter_text, info_text, letter_line}

-- "0000000000000000 12"
pub zeros_line : line_of (0 ∷ 0 ∷ 0 ∷ 0 ∷ 0 ∷ 0 ∷ 0 ∷ 0 ∷ []) 12
    ≡ 48 ∷ 48 ∷ 48 ∷ 48 ∷ 48 ∷ 48 ∷ 48 ∷ 48 ∷ 48 ∷ 48 ∷ 48 ∷ 48 ∷ 48 ∷ 48 ∷ 48 ∷ 48 ∷ 32 ∷ 49 ∷ 50 ∷ 10 ∷ []
unfolding line_of hex_of decimal_of
zeros_line = refl

-- "A30F 0"
pub letters_line : line_of (0xA3 ∷ 0x0F ∷ []) 0 ≡ 65 ∷ 51 ∷ 48 ∷ 70 ∷ 32 ∷ 48 ∷ 10 ∷ []
unfolding line_of hex_of decimal_of
letters_line = refl

-- "1187 A 0003": the block of docs/LONG-DIVISION.md
pub block_line : letter_line 1187 0xE37 ≡ 49 ∷ 49 ∷ 56 ∷ 55 ∷ 32 ∷ 65 ∷ 32 ∷ 48 ∷ 48 ∷ 48 ∷ 51 ∷ 10 ∷ []
unfolding letter_line letter_of first_of fits carries check_word syndrome remainder reduce number_text digits_of letter_text info_text
block_line = refl

-- "0 C' A30F"
pub c_prime_line : letter_line 0 (0xA30F * 1024 + check_word 0xA30F 0x350) ≡ 48 ∷ 32 ∷ 67 ∷ 39 ∷ 32 ∷ 65 ∷ 51 ∷ 48 ∷ 70 ∷ 10 ∷ []
unfolding letter_line letter_of first_of fits carries check_word syndrome remainder reduce number_text digits_of letter_text info_text
c_prime_line = refl

-- a bit turned, and there is no line
pub no_line : letter_line 0 0xE36 ≡ []
unfolding letter_line letter_of first_of fits carries check_word syndrome remainder reduce number_text digits_of letter_text info_text
no_line = refl
