-- The bits of a packet part by part, as the writer puts them (01, Packet; 000, table 1).
use Rattle.std.specs.Prelude.{◌≡◌, Bool, not, ◌&&◌, ◌||◌, List, [], ◌++◌, ℕ, ◌+◌, ◌-◌, ◌*◌, ◌≤◌, length, take, eqb}
use Rattle.laws.specs.Bits.{bits_of, spread}
use Rattle.format.specs.declared.Line.{Line}
use Rattle.format.specs.Format.{size, need, encode, fill, fine, times}
use Rattle.packet.specs.declared.Content.{Content}
use Rattle.packet.specs.declared.Fields.{Fields}
use Rattle.packet.specs.Table.{content_bytes, count_line, content_lines, code}
use Rattle.packet.specs.Content.{kind_for, numbers_of, count_for}
use Rattle.packet.specs.Writing.{row_for, digits_before, front_for, back_for, body_for, size_for, other_type, body_lost, digits_lost}
use Rattle.packet.specs.InCode.{own_of, beside_of}
use Rattle.writer.specs.Puts.{count_lent}

-- a content: its first lines and its count; what is repeated; its last lines
unfoldable pub front_bits : Content → List ℕ → ℕ → List ℕ
front_bits c ds k =
    encode (row_for c).before (fill (row_for c).before (front_for c ds)) ++ encode (count_line (row_for c).counting k) (fill (count_line (row_for c).counting k) [])

-- of these, the content's own numbers, and the digits beside it
unfoldable pub own_bits : Content → List ℕ
own_bits c = encode (own_of (kind_for c)) (fill (own_of (kind_for c)) (numbers_of c))

unfoldable pub beside_bits : Content → List ℕ → List ℕ
beside_bits c ds = encode (beside_of (kind_for c)) (fill (beside_of (kind_for c)) (take (digits_before c) ds))

-- how many bits that is
unfoldable pub front_size : Content → ℕ → ℕ
front_size c k = size (row_for c).before + size (count_line (row_for c).counting k)

-- what is repeated
unfoldable pub body_bits : Content → List ℕ → List ℕ
body_bits c body = encode (times (count_for c body) (row_for c).each) (fill (times (count_for c body) (row_for c).each) (body_for c body))

-- how many bits that is
unfoldable pub body_size : Content → List ℕ → ℕ
body_size c body = count_for c body * size (row_for c).each

-- the last lines
unfoldable pub back_bits : Content → List ℕ → List ℕ
back_bits c ds = encode (row_for c).after (fill (row_for c).after (back_for c ds))

-- a body of which no count is wrong: at most 255 rows, and as many numbers as they need
pub record Lent (c : Content) (body : List ℕ) : Type 0 where
  pub few : count_for c body ≤ 255
  pub numbers : length body ≡ count_for c body * need (row_for c).each

-- the whole content
abbrev pub lines_for : Content → List ℕ → List Line
lines_for c body = content_lines (row_for c) (count_for c body)

-- its bits
unfoldable pub content_bits : Content → List ℕ → List ℕ → List ℕ
content_bits c ds body = encode (lines_for c body) (fill (lines_for c body) (front_for c ds ++ (body_for c body ++ back_for c ds)))

-- how many they are
unfoldable pub content_size : Content → List ℕ → ℕ
content_size c body = size (lines_for c body)

-- what stands before the codes
unfoldable pub head_bits : ℕ → ℕ → ℕ → List ℕ
head_bits kind p n = bits_of 5 kind ++ (bits_of 11 (p - 2) ++ bits_of 8 n)

-- a code of these digits
unfoldable pub code_bits : List ℕ → List ℕ
code_bits xs = encode code (fill code xs)

-- time, certificate number, signature
unfoldable pub ending_bits : ℕ → List ℕ → List ℕ → List ℕ
ending_bits time certificate signature = bits_of 32 time ++ (spread 4 certificate ++ spread 8 signature)

-- as much of the body as the content's rows need
abbrev pub Bodied : Content → List ℕ → Type 0
Bodied c body = length (body_for c body) ≡ count_for c body * need (row_for c).each

-- counts that are those of what is lent
pub record Counts (f : Fields) (codes body : List ℕ) : Type 0 where
  pub bodied : Bodied f.content body
  pub coded : length codes ≡ f.codes * 23

-- fields that can be written: besides, all of the body is the content's, and the packet is not too long
pub record Writable (f : Fields) (codes body : List ℕ) : Type 0 where
  pub counts : Counts f codes body
  pub lent : Lent f.content body
  pub small : size_for f body ≤ 250

-- ---- what the answers ask, part by part (01, Numbers given back, Packet writer)
-- the bytes of a content, by the column of paper 01's table, where so many numbers are lent
abbrev pub bytes_of : Content → ℕ → ℕ
bytes_of c lent = content_bytes (kind_for c) (count_lent c lent)

-- no first line is due the answer a
abbrev pub front_fine : ℕ → Content → List ℕ → Bool
front_fine a c ds = fine a (row_for c).before (fill (row_for c).before (front_for c ds))

-- the content's own numbers are in their ranges
abbrev pub own_fine : Content → Bool
own_fine c = fine 27 (own_of (kind_for c)) (fill (own_of (kind_for c)) (numbers_of c))

-- no line of what is repeated
abbrev pub rows_fine : ℕ → Content → List ℕ → Bool
rows_fine a c body = fine a (times (count_for c body) (row_for c).each) (fill (times (count_for c body) (row_for c).each) (body_for c body))

-- no last line
abbrev pub back_fine : ℕ → Content → List ℕ → Bool
back_fine a c ds = fine a (row_for c).after (fill (row_for c).after (back_for c ds))

-- 27 for what could not be handed back
unfoldable pub something_lost : Fields → List ℕ → Bool
something_lost f body =
    other_type f || (body_lost (row_for f.content).counting (length body) || (digits_lost f.content f.digits || (eqb f.typenumber 1 && not (eqb f.codes 0))))
