-- The lines of the listing program (paper 01, the listing program): a frame's bytes in upper-case hex, a space, the collector's answer.
use Rattle.std.specs.Prelude.{cond, List, [], ◌∷◌, ◌++◌, ℕ, ◌+◌, ◌/◌, ◌%◌, length, drop, ltb}

-- a number below 16 as a character: 0 to 9, A to F (01, the listing program)
abbrev pub glyph : ℕ → ℕ
glyph d = cond (ltb d 10) (48 + d) (55 + d)

-- two characters a byte, the high half first
unfoldable pub hex_of : List ℕ → List ℕ
hex_of [] = []
hex_of (b ∷ bs) = glyph (b / 16) ∷ glyph (b % 16) ∷ hex_of bs

-- a number of at most three digits, with no zero in front
unfoldable pub decimal_of : ℕ → List ℕ
decimal_of n =
    cond (ltb n 10) ((48 + n) ∷ [])
    (cond (ltb n 100) ((48 + n / 10) ∷ (48 + n % 10) ∷ [])
    ((48 + n / 100) ∷ (48 + n / 10 % 10) ∷ (48 + n % 10) ∷ []))

-- the bytes, a space, the answer, the line's end
unfoldable pub line_of : List ℕ → ℕ → List ℕ
line_of frame answer = hex_of frame ++ (32 ∷ decimal_of answer ++ (10 ∷ []))

-- how much of the line is written: all of it, or nothing where the output is too short
unfoldable pub written_of : List ℕ → ℕ → List ℕ → ℕ
written_of frame answer out = cond (ltb (length out) (length (line_of frame answer))) 0 (length (line_of frame answer))

-- the line at the start of the output; as it was where the line does not fit
unfoldable pub line_into : List ℕ → ℕ → List ℕ → List ℕ
line_into frame answer out =
    cond (ltb (length out) (length (line_of frame answer))) out (line_of frame answer ++ drop (length (line_of frame answer)) out)
