-- The lines of the shelf (paper 02, K6): a record's level, version and P in decimal, its packet in upper-case hex, single spaces between.
use Rattle.std.specs.Prelude.{Bool, cond, ◌||◌, List, [], ◌∷◌, ◌++◌, ℕ, length, drop, ltb}
use Rattle.print.specs.Lines.{hex_of, decimal_of}

-- a number and the space behind it
unfoldable pub spaced : ℕ → List ℕ
spaced n = decimal_of n ++ (32 ∷ [])

-- level, version and P
unfoldable pub front : ℕ → ℕ → ℕ → List ℕ
front level version size = spaced level ++ (spaced version ++ spaced size)

-- the whole line
unfoldable pub record_line : ℕ → ℕ → List ℕ → List ℕ
record_line level version packet = front level version (length packet) ++ (hex_of packet ++ (10 ∷ []))

-- a packet of more than 255 bytes has no line, and too short an output has no room for it
unfoldable pub no_line : ℕ → ℕ → List ℕ → List ℕ → Bool
no_line level version packet out = ltb 255 (length packet) || ltb (length out) (length (record_line level version packet))

-- how much is written: the whole line, or nothing
unfoldable pub record_written : ℕ → ℕ → List ℕ → List ℕ → ℕ
record_written level version packet out = cond (no_line level version packet out) 0 (length (record_line level version packet))

-- the line at the start of the output, the rest as it was
unfoldable pub record_into : ℕ → ℕ → List ℕ → List ℕ → List ℕ
record_into level version packet out =
    cond (no_line level version packet out) out
    (record_line level version packet ++ drop (length (record_line level version packet)) out)
