-- The code's table is that of Table (01, Packet), as one list of lines, of which a row names parts; and its contents, as plain numbers and back.
use Rattle.std.specs.Prelude.{cond, ◌&&◌, List, [], ◌∷◌, ◌++◌, ℕ, suc, ◌+◌, ◌-◌, ◌*◌, ◌%◌, ◌≤◌, leb, eqb, length, take, drop, replicate}
use Rattle.format.specs.Format.{own, size, need}
use Rattle.format.specs.declared.Line.{Line}
use Rattle.packet.specs.declared.Lines.{Lines}
use Rattle.packet.specs.declared.RowLines.{RowLines}
use Rattle.packet.specs.declared.Kind.{Kind}
use Rattle.packet.specs.declared.Content.{Content}
use Rattle.packet.specs.declared.Laid.{Laid}
use Rattle.packet.specs.Table.{kinds, type_of, Row, row_of}
use Rattle.packet.specs.Content.{content_of, parts_of, kind_for, numbers_of, numbers_in}
use Rattle.packet.specs.Reading.{padded}

-- ---- the table of contents as one list of lines, kind by kind
abbrev pub lines_of : Row → List Line
lines_of r = r.before ++ (r.each ++ r.after)

-- those of several kinds
unfoldable pub lines_of_each : List Kind → List Line
lines_of_each [] = []
lines_of_each (f ∷ fs) = lines_of (row_of f) ++ lines_of_each fs

-- all of them
unfoldable pub every_line : List Line
every_line = lines_of_each kinds

-- ---- where lines stand in it
-- so many lines of these kinds come before the kind's own
unfoldable pub lines_up_to : Kind → List Kind → ℕ
lines_up_to f [] = 0
lines_up_to f (g ∷ gs) = cond (eqb (type_of g) (type_of f)) 0 (length (lines_of (row_of g)) + lines_up_to f gs)

-- the place where a kind's lines begin
abbrev pub place_of : Kind → ℕ
place_of f = lines_up_to f kinds

-- lines that begin at a place
abbrev pub span_at : ℕ → List Line → Lines
span_at p ts = record { from = p; m = length ts; bits = size ts; numbers = need ts }

-- so many of these lines hold n numbers and end with a byte, s bits having gone before
unfoldable pub lines_for : ℕ → ℕ → List Line → ℕ
lines_for n s [] = 0
lines_for n s (t ∷ ts) = cond (eqb n 0 && eqb (s % 8) 0) 0 (suc (lines_for (n - own t) (s + t.count * t.width) ts))

-- so many lines hold a content's own numbers
unfoldable pub own_lines : Kind → ℕ
own_lines f = lines_for (numbers_in f) 0 (row_of f).before

-- those lines
abbrev pub own_of : Kind → List Line
own_of f = take (own_lines f) (row_of f).before

-- and those of the digits beside it
abbrev pub beside_of : Kind → List Line
beside_of f = drop (own_lines f) (row_of f).before

-- a kind's row in code
unfoldable pub row_at : Kind → RowLines
row_at f =
    record {
      counting = (row_of f).counting;
      own = own_lines f;
      before = span_at (place_of f) (row_of f).before;
      each = span_at (place_of f + length (row_of f).before) (row_of f).each;
      after = span_at (place_of f + length (row_of f).before + length (row_of f).each) (row_of f).after;
    }

-- the lines that stand at a place
abbrev pub lines_in : Lines → List Line
lines_in ts = take ts.m (drop ts.from every_line)

-- at most six lines, all of them there
abbrev pub Stands : Lines → Type 0
Stands ts = (ts.m ≤ 6) × (ts.from + ts.m ≤ length every_line)

-- ---- a content as plain numbers: its own, then zeros up to six
abbrev pub laid_of : Content → Laid
laid_of c = record { kind = kind_for c; n = length (numbers_of c); numbers = padded 6 (numbers_of c); count = (parts_of c).count }

-- ---- and back, from numbers that may be too large for their fields
-- so many bits has each of the numbers that lines have of their own
unfoldable pub widths : List Line → List ℕ
widths [] = []
widths (t ∷ ts) = cond t.given (replicate t.count t.width) [] ++ widths ts

-- a field has a byte where its line has at most 8 bits, else two
abbrev pub room : ℕ → ℕ
room w = cond (leb w 8) 256 65536

-- numbers, each with the low bytes that its field has room for
unfoldable pub cut : List ℕ → List ℕ → List ℕ
cut [] xs = []
cut (w ∷ ws) [] = []
cut (w ∷ ws) (x ∷ xs) = x % room w ∷ cut ws xs

-- the content of a kind with these numbers, and its count
abbrev pub named_by : Kind → List ℕ → ℕ → Content
named_by f xs k = content_of f (cut (widths (row_of f).before) xs) k
