-- Lines that are read and written by columns, a line in all of its rows and then the next (ours, between functions).
use Rattle.std.specs.Prelude.{Bool, cond, ◌&&◌, List, [], ◌∷◌, ℕ, ◌+◌, ◌*◌, ◌%◌, leb, eqb}
use Rattle.format.specs.declared.Line.{Line}

-- a line of one number
abbrev pub single : Line → Bool
single t = eqb t.count 1

-- digits
abbrev pub digits_line : Line → Bool
digits_line t = (eqb t.lo 0 && eqb t.hi 9) && eqb t.answer 25

-- one byte
abbrev pub octet_line : Line → Bool
octet_line t = (eqb t.width 8 && eqb t.count 1) && (leb t.lo 255 && leb t.hi 255)

-- a line of digits, of one byte, or of bits that are always the same
abbrev pub column : Line → Bool
column t = cond t.given (cond (eqb t.width 4) (digits_line t) (octet_line t)) (single t)

-- lines of which each is one, and which end with a byte, q bits having gone before
unfoldable pub columns : ℕ → List Line → Bool
columns q [] = eqb (q % 8) 0
columns q (t ∷ ts) = column t && columns (q + t.count * t.width) ts
