-- The bytes of a packet from its fields, and what a writer answers (paper 01, "Numbers given back", Packet writer).
use Rattle.std.specs.Prelude.{Result, ℕ, zero, suc, ◌+◌, ◌-◌, ◌*◌, List, [], ◌∷◌, ◌++◌, Bool, false, not, ◌&&◌, ◌||◌, length, take, drop, leb, ltb, eqb}
use Rattle.laws.specs.Bits.{bytes}
use Rattle.laws.specs.Refusals.{Case, first}
use Rattle.format.specs.declared.Line.{Line}
use Rattle.format.specs.Format.{need, encode, fill, inside, fine}
use Rattle.packet.specs.declared.Counting.{Counting}
use Rattle.packet.specs.declared.Counting.TheVariants as counting
use Rattle.packet.specs.declared.Content.{Content}
use Rattle.packet.specs.declared.Fields.{Fields}
use Rattle.refusal.specs.declared.Refusal.{Refusal}
use Rattle.refusal.specs.Refusal.{answer_of, value_or}
use Rattle.packet.specs.Table.{kind_of, only_read, type_of, content_bytes, Row, row_of, packet}
use Rattle.packet.specs.Content.{kind_for, numbers_of, count_for, no_such_day}
use Rattle.packet.specs.Reading.{is_unknown}

-- ---- the content's own row, and its numbers in the order of its lines (01, Packet)
abbrev pub row_for : Content → Row
row_for c = row_of (kind_for c)

-- so many digits stand before the count, and so many after the bytes
abbrev pub digits_before : Content → ℕ
digits_before c = need (row_for c).before - length (numbers_of c)

-- so many behind them
abbrev pub digits_after : Content → ℕ
digits_after c = need (row_for c).after

-- the numbers before what is repeated
unfoldable pub front_for : Content → List ℕ → List ℕ
front_for c ds = numbers_of c ++ take (digits_before c) ds

-- those behind
unfoldable pub back_for : Content → List ℕ → List ℕ
back_for c ds = take (digits_after c) ds

-- as much of what is lent as the content counts
unfoldable pub body_for : Content → List ℕ → List ℕ
body_for c body = take (count_for c body * need (row_for c).each) body

-- ---- the packet's size, table, numbers and bytes (01, Packet; 000, table 1)
unfoldable pub size_for : Fields → List ℕ → ℕ
size_for f body = 77 + 12 * f.codes + content_bytes (kind_for f.content) (count_for f.content body)

-- the lines of the whole packet
unfoldable pub table_for : Fields → List ℕ → List Line
table_for f body = packet (row_for f.content) f.typenumber (size_for f body) f.codes (count_for f.content body)

-- the numbers of all free lines, in their order
unfoldable pub numbers_for : Fields → List ℕ → List ℕ → List ℕ
numbers_for f codes body =
    codes ++ (front_for f.content f.digits ++ (body_for f.content body ++ (back_for f.content f.digits ++ (f.time ∷ (f.certificate ++ f.signature)))))

-- the same by lines
abbrev pub values_for : Fields → List ℕ → List ℕ → List (List ℕ)
values_for f codes body = fill (table_for f body) (numbers_for f codes body)

-- the packet
unfoldable pub bytes_for : Fields → List ℕ → List ℕ → List ℕ
bytes_for f codes body = bytes (encode (table_for f body) (values_for f codes body))

-- ---- the answer, in the order of paper 01 (Numbers given back, Packet writer)
-- 23: a type that is only read, or not even that
abbrev pub not_written : ℕ → Bool
not_written t = only_read t || is_unknown (kind_of t)

-- 26: n, k, m or t is above 255, or is not that of what is lent; entries have as many numbers as their row
abbrev pub lent_bad : Counting → ℕ → ℕ → ℕ → Bool
lent_bad counting.Fixed k w lent = false
lent_bad counting.Counted k w lent = not (leb k 255 && eqb lent (k * w))
lent_bad counting.Raw k w lent = false
lent_bad counting.Unknown k w lent = false

-- of the codes or of the content
unfoldable pub count_bad : Fields → List ℕ → List ℕ → Bool
count_bad f codes body =
    not (leb f.codes 255 && eqb (length codes) (f.codes * 23))
    || lent_bad (row_for f.content).counting (count_for f.content body) (need (row_for f.content).each) (length body)

-- 25: a digit above 9, in the lines or in the places of digits that the content doesn't use
unfoldable pub digit_bad : Fields → List ℕ → List ℕ → Bool
digit_bad f codes body = not (fine 25 (table_for f body) (values_for f codes body)) || not (inside 0 9 f.digits)

-- 27: content that isn't of the type named; what could not be handed back: digits that the content doesn't use, a body for a content that has none;
-- codes for type 1, whose receivers ignore them (000, 6.1.2.3); a field outside its range; no such day
abbrev pub other_type : Fields → Bool
other_type f = not (eqb (type_of (kind_of f.typenumber)) (type_of (kind_for f.content)))

-- a body for a content that has none
abbrev pub body_lost : Counting → ℕ → Bool
body_lost counting.Fixed lent = not (eqb lent 0)
body_lost counting.Counted lent = false
body_lost counting.Raw lent = false
body_lost counting.Unknown lent = false

-- digits in places that the content does not use
abbrev pub digits_lost : Content → List ℕ → Bool
digits_lost c ds = not (inside 0 0 (drop (digits_before c + digits_after c) ds))

-- any of these
unfoldable pub not_taken : Fields → List ℕ → List ℕ → Bool
not_taken f codes body =
    other_type f
    || (body_lost (row_for f.content).counting (length body)
    || (digits_lost f.content f.digits
    || ((eqb f.typenumber 1 && not (eqb f.codes 0))
    || (not (fine 27 (table_for f body) (values_for f codes body)) || no_such_day f.content))))

-- the writer's cases
abbrev pub write_cases : Fields → List ℕ → List ℕ → ℕ → List Case
write_cases f codes body room =
    (not_written f.typenumber, 23)
    ∷ (count_bad f codes body, 26)
    ∷ (digit_bad f codes body, 25)
    ∷ (not_taken f codes body, 27)
    ∷ (ltb 250 (size_for f body), 20)
    ∷ (ltb room (size_for f body), 10)
    ∷ []

-- its number
unfoldable pub written_answer : Fields → List ℕ → List ℕ → ℕ → ℕ
written_answer f codes body room = first (write_cases f codes body room)

-- ---- what is written: P bytes, or nothing (01, Numbers given back)
-- a number given back and how many bytes were written
pub record Written : Type 0 where
  pub answer : ℕ
  pub length : ℕ

-- the two that a result tells: beside a refusal the length is 0
abbrev pub told : Result ℕ Refusal → Written
told r = record { answer = answer_of r; length = value_or 0 r }

abbrev pub written_by : ℕ → ℕ → Written
written_by zero p = record { answer = 0; length = p }
written_by (suc a) p = record { answer = suc a; length = 0 }

-- what `write` gives
unfoldable pub written : Fields → List ℕ → List ℕ → ℕ → Written
written f codes body room = written_by (written_answer f codes body room) (size_for f body)

-- the packet's bytes at the start beside 0, else all as it was
abbrev pub output_by : ℕ → List ℕ → List ℕ → List ℕ
output_by zero xs out = xs ++ drop (length xs) out
output_by (suc a) xs out = out

-- what `write` leaves in the lent output
unfoldable pub packet_output : Fields → List ℕ → List ℕ → List ℕ → List ℕ
packet_output f codes body out = output_by (written_answer f codes body (length out)) (bytes_for f codes body) out
