-- What a packet's bytes say, and what a reader answers (paper 01, "Packet" and "Numbers given back", Reader).
use Rattle.std.specs.Prelude.{Result, Ok, Err, ℕ, zero, suc, ◌+◌, ◌-◌, ◌*◌, ◌/◌, List, [], ◌∷◌, ◌++◌, Bool, true, false, not, ◌&&◌, ◌||◌, cond, length, replicate, take, drop, leb, ltb, eqb}
use Rattle.std.proofs.lemmas.List.Edits.{sets}
use Rattle.laws.specs.Bits.{at, run, bits}
use Rattle.laws.specs.Refusals.{Case, first}
use Rattle.format.specs.declared.Line.{Line}
use Rattle.format.specs.Format.{times, size, need, decode, flat, fine}
use Rattle.size.specs.Size.{length_field}
use Rattle.packet.specs.declared.Kind.{Kind}
use Rattle.packet.specs.declared.Counting.{Counting}
use Rattle.packet.specs.declared.Counting.TheVariants as counting
use Rattle.packet.specs.declared.Content.{Content}
use Rattle.packet.specs.declared.Content.TheVariants as content
use Rattle.packet.specs.declared.Fields.{Fields}
use Rattle.packet.specs.declared.Opened as code
use Rattle.refusal.specs.declared.Refusal.{Refusal}
use Rattle.refusal.specs.Refusal.{number_of}
use Rattle.packet.specs.declared.Sizes.{Sizes}
use Rattle.packet.specs.Table.{kind_of, content_bytes, Row, row_of, count_line, code, packet, count_in}
use Rattle.packet.specs.Content.{content_of, numbers_in, no_such_day}

-- ---- the heading (000, table 1): type, length field, count of codes
abbrev pub type_in : List ℕ → ℕ
type_in b = at (bits b) 0 5

-- L, all bytes but the first two
abbrev pub length_in : List ℕ → ℕ
length_in b = length_field b

-- n
abbrev pub codes_in : List ℕ → ℕ
codes_in b = at (bits b) 16 8

-- the kind that the type names (000, table 2)
abbrev pub kind_in : List ℕ → Kind
kind_in b = kind_of (type_in b)

-- ---- the content: where its bits begin, how many bytes it has, how often its row stands (01, Packet)
abbrev pub content_at : List ℕ → ℕ
content_at b = 24 + 96 * codes_in b

-- P - 77 - 12n bytes
abbrev pub content_size : List ℕ → ℕ
content_size b = length b - 77 - 12 * codes_in b

-- k, m or t; all bytes of a raw content
unfoldable pub count_of : List ℕ → ℕ
count_of b = count_in (row_of (kind_in b)) (bits b) (content_at b) (content_size b)

-- ---- the table that the packet names, and its values by it (our table language)
unfoldable pub table_of : List ℕ → List Line
table_of b = packet (row_of (kind_in b)) (type_in b) (length b) (codes_in b) (count_of b)

-- a list of numbers for each line
abbrev pub values_in : List ℕ → List (List ℕ)
values_in b = decode (table_of b) (bits b) 0

-- ---- the numbers of the content's three parts (01, Packet)
-- the count has 8 bits where there is one
abbrev pub count_size : Counting → ℕ
count_size counting.Fixed = 0
count_size counting.Counted = 8
count_size counting.Raw = 0
count_size counting.Unknown = 0

-- what is repeated begins so many bits into the content: after the first lines and the count
unfoldable pub part_at : Row → ℕ
part_at r = size r.before + size (count_line r.counting 0)

-- the bits and own numbers of a kind's three parts (our table language)
abbrev pub sizes_of : Kind → Sizes
sizes_of f =
    record {
      lead = part_at (row_of f);
      each = size (row_of f).each;
      rest = size (row_of f).after;
      first = need (row_of f).before;
      row = need (row_of f).each;
      last = need (row_of f).after;
    }

-- the numbers of the lines ts that begin at place p
abbrev pub numbers_at : List Line → List ℕ → ℕ → List ℕ
numbers_at ts b p = flat ts (decode ts (bits b) p)

-- those before what is repeated
unfoldable pub front_in : List ℕ → List ℕ
front_in b = numbers_at (row_of (kind_in b)).before b (content_at b)

-- those that are repeated
unfoldable pub body_in : List ℕ → List ℕ
body_in b = numbers_at (times (count_of b) (row_of (kind_in b)).each) b (content_at b + part_at (row_of (kind_in b)))

-- those behind
unfoldable pub back_in : List ℕ → List ℕ
back_in b =
    numbers_at (row_of (kind_in b)).after b
    (content_at b + (part_at (row_of (kind_in b)) + count_of b * size (row_of (kind_in b)).each))

-- ---- the fields (01, Packet)
abbrev pub content_in : List ℕ → Content
content_in b = content_of (kind_in b) (front_in b) (count_of b)

-- the digits beside the content: what stands after its numbers, and after its bytes
abbrev pub digits_in : List ℕ → List ℕ
digits_in b = drop (numbers_in (kind_in b)) (front_in b) ++ back_in b

-- n zeros
unfoldable pub zeros : ℕ → List ℕ
zeros n = replicate n 0

-- xs, then zeros up to n in all
abbrev pub padded : ℕ → List ℕ → List ℕ
padded n xs = sets (zeros n) 0 xs

-- the digits of the codes, 23 a code
unfoldable pub codes_of : List ℕ → List ℕ
codes_of b = numbers_at (times (codes_in b) code) b 24

-- a kind whose repeated row has several lines has entries, and the others bytes (01, Packet: type 0)
abbrev pub has_entries : Kind → Bool
has_entries f = ltb 1 (length (row_of f).each)

-- the common fields: time, certificate and signature stand 74, 70 and 64 bytes before the end (000, table 1)
unfoldable pub fields_of : List ℕ → Fields
fields_of b =
    record {
      typenumber = type_in b;
      codes = codes_in b;
      content = content_in b;
      digits = padded 35 (digits_in b);
      time = at (bits b) (8 * (length b - 74)) 32;
      certificate = run (bits b) (8 * (length b - 70)) 12 4;
      signature = run (bits b) (8 * (length b - 64)) 64 8;
    }

-- ---- the answer, in the order of paper 01 (Numbers given back, Reader)
-- 20: not 77 to 250 bytes, or not the length field and 2, or under 77 and 12 a code
unfoldable pub size_bad : List ℕ → Bool
size_bad b = not ((leb 77 (length b) && leb (length b) 250) && (eqb (length b) (length_in b + 2) && leb (77 + 12 * codes_in b) (length b)))

-- 26: the content has not the bytes of the column, for its kind and its count
unfoldable pub length_bad : List ℕ → Bool
length_bad b = not (eqb (content_bytes (kind_in b) (count_of b)) (content_size b))

-- 23: a type that is neither opened nor carried
abbrev pub unknown_by : Counting → Bool
unknown_by counting.Fixed = false
unknown_by counting.Counted = false
unknown_by counting.Raw = false
unknown_by counting.Unknown = true

-- by its row
abbrev pub is_unknown : Kind → Bool
is_unknown f = unknown_by (row_of f).counting

-- 27: a field outside its range, or no such day
abbrev pub field_bad : List ℕ → Bool
field_bad b = not (fine 27 (table_of b) (values_in b)) || no_such_day (content_in b)

-- the cases before a field's; x is what is answered 27
abbrev pub cases_then : List ℕ → Bool → List Case
cases_then b x =
    (size_bad b, 20)
    ∷ (is_unknown (kind_in b), 23)
    ∷ (length_bad b, 26)
    ∷ (not (fine 24 (table_of b) (values_in b)), 24)
    ∷ (not (fine 25 (table_of b) (values_in b)), 25)
    ∷ (x, 27)
    ∷ []

-- the reader's cases
abbrev pub read_cases : List ℕ → List Case
read_cases b = cases_then b (field_bad b)

-- its number
unfoldable pub read_answer : List ℕ → ℕ
read_answer b = first (read_cases b)

-- ---- what is opened; beside a refusal all zero, the content raw (01, Numbers given back)
unfoldable pub no_fields : Fields
no_fields =
    record { typenumber = 0; codes = 0; content = content.Raw; digits = zeros 35; time = 0; certificate = zeros 12; signature = zeros 64 }

-- a number given back, and what is opened beside it
pub record Opened : Type 0 where
  pub answer : ℕ
  pub fields : Fields
  pub codes : List ℕ
  pub entries : List ℕ

-- a number and nothing beside it
abbrev pub refused_as : ℕ → Opened
refused_as a = record { answer = a; fields = no_fields; codes = zeros 322; entries = zeros 272 }

-- both, as a result tells them
abbrev pub opened_told : Result code.Opened Refusal → Opened
opened_told (Ok o) = record { answer = 0; fields = o.fields; codes = o.codes; entries = o.entries }
opened_told (Err e) = refused_as (number_of e)

-- all that is opened beside 0
abbrev pub opened_by : ℕ → List ℕ → Opened
opened_by zero b =
    record {
      answer = 0;
      fields = fields_of b;
      codes = padded 322 (codes_of b);
      entries = padded 272 (cond (has_entries (kind_in b)) (body_in b) []);
    }
opened_by (suc a) b = refused_as (suc a)

-- what `read` gives
unfoldable pub opened : List ℕ → Opened
opened b = opened_by (read_answer b) b

-- ---- parts of the packet: k bytes from a byte on, where the answer is 0 (01, Packet)
abbrev pub part_by : ℕ → ℕ → ℕ → List ℕ → List ℕ
part_by zero from k b = take k (drop from b)
part_by (suc a) from k b = []

-- the address, the text or the raw bytes
unfoldable pub body_of : List ℕ → List ℕ
body_of b =
    part_by (read_answer b) (3 + 12 * codes_in b + part_at (row_of (kind_in b)) / 8)
    (cond (has_entries (kind_in b)) 0 (count_of b)) b

-- the text, 20 bytes into the content; 27 where the type is not 15
abbrev pub text_cases : List ℕ → List Case
text_cases b = cases_then b (field_bad b || not (eqb (type_in b) 15))

-- the number that goes with the text
unfoldable pub text_answer : List ℕ → ℕ
text_answer b = first (text_cases b)

-- what `text` hands back
unfoldable pub text_of : List ℕ → List ℕ
text_of b = part_by (text_answer b) (23 + 12 * codes_in b) (count_of b) b
