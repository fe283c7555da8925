-- The packet check (paper 01, "Collector"; 000, table 22 no. 10): CRC-16 CCITT-FALSE, a register that starts at all ones,
-- the highest bit first, nothing added at the end.
use Rattle.std.specs.Prelude.{List, [], ◌∷◌, ℕ, ◌+◌, ◌*◌, ◌^◌, length}
use Rattle.std.specs.List.{fold}
use Rattle.laws.specs.Poly.{◌⊕◌, remainder}

-- x^16 + x^12 + x^5 + 1
abbrev pub generator : ℕ
generator = 2 ^ 16 + 2 ^ 12 + 2 ^ 5 + 1

-- the register times x^8: what is left of its 24 bits on division by the generator
unfoldable pub times_byte : ℕ → ℕ
times_byte register = remainder 16 generator 24 (register * 2 ^ 8)

-- the register with one more byte taken in at its high end
unfoldable pub taken : ℕ → ℕ → ℕ
taken register byte = times_byte (register ⊕ byte * 2 ^ 8)

-- and with each of a list
abbrev pub taken_all : ℕ → List ℕ → ℕ
taken_all = fold taken

-- the check of a packet's bytes; of no byte it is the start value
unfoldable pub crc16 : List ℕ → ℕ
crc16 bytes = taken_all 0xFFFF bytes

-- the bytes as one polynomial, the first byte's bits highest
unfoldable pub message : List ℕ → ℕ
message [] = 0
message (b ∷ bs) = b * 2 ^ (8 * length bs) ⊕ message bs

-- times x^16, to make room for the check, with the first 16 bits inverted by the start value
unfoldable pub dividend : List ℕ → ℕ
dividend bytes = 0xFFFF * 2 ^ (8 * length bytes) ⊕ message bytes * 2 ^ 16
