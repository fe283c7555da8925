-- A block of RDS is 26 bits, the highest first: 16 of information, then 10 of check (paper 01, "Blocks"; 000, 7.1.3).
use Rattle.std.specs.Prelude.{Bool, ◌&&◌, ℕ, ◌+◌, ◌*◌, ◌/◌, ◌%◌, ◌^◌, eqb, ltb}
use Rattle.laws.specs.Poly.{◌⊕◌, remainder}
use Rattle.block.specs.declared.Letter.{Letter}
use Rattle.block.specs.declared.Letter.TheVariants.{A, B, C, D}

-- x^10 + x^8 + x^7 + x^5 + x^4 + x^3 + 1
abbrev pub generator : ℕ
generator = 2 ^ 10 + 2 ^ 8 + 2 ^ 7 + 2 ^ 5 + 2 ^ 4 + 2 ^ 3 + 1

-- the offset words (paper 01's table, after IEC 62106; docs/DECISIONS.md says why B is not annex A's print)
abbrev pub offset_of : Letter → ℕ
offset_of A = 0x0FC
offset_of B = 0x198
offset_of C = 0x168
offset_of D = 0x1B4

-- what is left of 26 bits on division by the generator
unfoldable pub syndrome : ℕ → ℕ
syndrome bits = remainder 10 generator 26 bits

-- the check bits: what is left of information times x^10, and the offset added.
-- An offset of 1024 or more is added as it is: its bits above the tenth stand in the result.
unfoldable pub check_word : ℕ → ℕ → ℕ
check_word info offset = syndrome (info * 2 ^ 10) ⊕ offset

-- 26 bits whose low ten are the check bits of the high sixteen with the offset; no number of 2^26 or more
unfoldable pub carries : ℕ → ℕ → Bool
carries bits offset = ltb bits (2 ^ 26) && eqb (check_word (bits / 2 ^ 10) offset) (bits % 2 ^ 10)

-- a block of the letter
unfoldable pub is_valid : ℕ → Letter → Bool
is_valid bits letter = carries bits (offset_of letter)
