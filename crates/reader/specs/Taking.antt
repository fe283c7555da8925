-- What the functions under the packet reader ask of each other and give: lines taken by columns (ours, between functions).
use Rattle.std.specs.Prelude.{Result, Ok, Err, ℕ, ◌+◌, ◌-◌, ◌*◌, ◌/◌, ◌%◌, ◌<◌, ◌≤◌, ◌≡◌, true, false, cond, List, [], ◌++◌, length, take, drop, eqb, ltb}
use Rattle.laws.specs.Bits.{at, run, bits}
use Rattle.laws.specs.Scan.{all}
use Rattle.format.specs.declared.Line.{Line}
use Rattle.format.specs.Format.{times, own, size, need, sound}
use Rattle.packet.specs.declared.Kind.{Kind}
use Rattle.packet.specs.declared.Content.{Content}
use Rattle.packet.specs.declared.Lines.{Lines}
use Rattle.packet.specs.declared.RowLines.{RowLines}
use Rattle.packet.specs.declared.Sizes.{Sizes}
use Rattle.packet.specs.Table.{row_of}
use Rattle.packet.specs.Content.{numbers_in}
use Rattle.packet.specs.Columns.{column, columns, single}
use Rattle.packet.specs.InCode.{every_line, row_at, lines_in, Stands}
use Rattle.packet.specs.Reading.{Opened, type_in, codes_in, kind_in, count_of, part_at, numbers_at, zeros, padded, sizes_of, is_unknown, has_entries, size_bad, length_bad, read_answer, opened_by, refused_as}
use Rattle.reader.specs.declared.Told.{Told}
use Rattle.refusal.specs.declared.Refusal.{Refusal}
use Rattle.refusal.specs.Refusal.{number_of}
use Rattle.reader.specs.Due.{plain}

-- the own numbers of a line that begins at place p
abbrev pub own_at : Line → List ℕ → ℕ → List ℕ
own_at t b p = cond t.given (run (bits b) p t.count t.width) []

-- c digits in each of n rows, s bytes apart, that end with byte e in the first, of so many bytes; to places w apart, from i on, of so many
pub record Digits (c bytes e s n places i w : ℕ) : Type 0 where
  pub enough : c ≤ 2 * e
  pub inside : (k : ℕ) → k < n → e + k * s ≤ bytes
  pub room : (k : ℕ) → k < n → i + k * w + c ≤ places
  pub near : e + n * s ≤ 60000
  pub low : i + n * w ≤ 60000

-- a byte in each of n rows, from byte k on
pub record Octets (bytes k s n places i w : ℕ) : Type 0 where
  pub inside : (j : ℕ) → j < n → k + j * s < bytes
  pub room : (j : ℕ) → j < n → i + j * w < places
  pub near : k + n * s ≤ 60000
  pub low : i + n * w ≤ 60000

-- numbers of at most a byte in each of n rows, from bit p on
pub record Each (t : Line) (p s n places i w : ℕ) : Type 0 where
  pub few : t.count ≤ 64
  pub narrow : t.width ≤ 8
  pub room : (k : ℕ) → k < n → i + k * w + t.count ≤ places
  pub near : p + n * (s * 8) ≤ 50000
  pub low : i + n * w ≤ 50000

-- a line in each of n rows, from bit p on
pub record Column (t : Line) (bytes p s n places i w : ℕ) : Type 0 where
  pub good : sound t ≡ true
  pub fits : column t ≡ true
  pub inside : (k : ℕ) → k < n → p + k * (s * 8) + t.count * t.width ≤ bytes * 8
  pub room : (k : ℕ) → k < n → i + k * w + own t ≤ places
  pub near : p + n * (s * 8) ≤ 50000
  pub low : i + n * w ≤ 50000

-- n rows of lines, from bit p on
pub record Rows (ts : Lines) (n bytes p places i : ℕ) : Type 0 where
  pub few : Stands ts
  pub fits : columns 0 (lines_in ts) ≡ true
  pub start : p % 8 ≡ 0
  pub wide : need (lines_in ts) ≤ ts.numbers
  pub inside : (k : ℕ) → k < n → p + k * (ts.bits / 8 * 8) + size (lines_in ts) ≤ bytes * 8
  pub room : (k : ℕ) → k < n → i + k * ts.numbers + need (lines_in ts) ≤ places
  pub near : p + n * (ts.bits / 8 * 8) ≤ 10000
  pub low : i + n * ts.numbers ≤ 10000

-- m lines of one number each, from bit p on
pub record Own (from m p : ℕ) : Type 0 where
  pub few : m ≤ 6
  pub there : from + m ≤ length every_line
  pub ones : all single (take m (drop from every_line)) ≡ true
  pub place : p < 10000

-- k entries from bit p on, or bytes that are due nothing
pub record Entries (each : Lines) (k bytes p places : ℕ) : Type 0 where
  pub few : Stands each
  pub fits : columns 0 (lines_in each) ≡ true
  pub bits : each.bits ≡ size (lines_in each)
  pub numbers : each.numbers ≡ need (lines_in each)
  pub bytes_plain : ltb 1 each.m ≡ false → all plain (lines_in each) ≡ true
  pub start : p % 8 ≡ 0
  pub inside : p + k * size (lines_in each) ≤ bytes * 8
  pub short : bytes ≤ 250
  pub room : ltb 1 each.m ≡ true → k * need (lines_in each) ≤ places
  pub low : k * need (lines_in each) ≤ 3000

-- a content of a kind, with its row in code, from bit q on; to arrays of zeros
pub record Holding (f : Kind) (s : RowLines) (z : Sizes) (k bytes q : ℕ) (digits entries : List ℕ) : Type 0 where
  pub row : s ≡ row_at f
  pub sizes : z ≡ sizes_of f
  pub count : k < 256
  pub known : is_unknown f ≡ false
  pub start : q % 8 ≡ 0
  pub behind : 24 ≤ q
  pub inside : q + (part_at (row_of f) + k * size (row_of f).each + size (row_of f).after) + 592 ≤ bytes * 8
  pub short : bytes ≤ 250
  pub none : digits ≡ zeros 35
  pub also_none : entries ≡ zeros 272

-- what stands in them then
pub record Beside (f : Kind) (k : ℕ) (b : List ℕ) (q : ℕ) (digits entries : List ℕ) : Type 0 where
  pub digits_are : digits ≡ padded 35 (drop (numbers_in f) (numbers_at (row_of f).before b q) ++ numbers_at (row_of f).after b (q + (part_at (row_of f) + k * size (row_of f).each)))
  pub entries_are : entries ≡ padded 272 (cond (has_entries f) (numbers_at (times k (row_of f).each) b (q + part_at (row_of f))) [])

-- a packet whose sizes are right, with what its heading says
pub record Right (f : Kind) (s : RowLines) (z : Sizes) (n k : ℕ) (b : List ℕ) : Type 0 where
  pub kind : f ≡ kind_in b
  pub row : s ≡ row_at f
  pub sizes : z ≡ sizes_of f
  pub many : n ≡ codes_in b
  pub count : k ≡ count_of b
  pub known : is_unknown f ≡ false
  pub sized : size_bad b ≡ false
  pub long : length_bad b ≡ false

-- arrays of zeros for its codes, its entries and the digits beside its content
pub record Blank (codes entries digits : List ℕ) : Type 0 where
  pub codes_none : codes ≡ zeros 322
  pub entries_none : entries ≡ zeros 272
  pub digits_none : digits ≡ zeros 35

-- arrays of these lengths
pub record Long (codes entries digits : List ℕ) : Type 0 where
  pub codes_long : length codes ≡ 322
  pub entries_long : length entries ≡ 272
  pub digits_long : length digits ≡ 35

-- a number given back, and what is told beside it: all that is opened but for what those arrays hold
pub record Answered : Type 0 where
  pub answer : ℕ
  pub typenumber : ℕ
  pub codes : ℕ
  pub content : Content
  pub time : ℕ
  pub certificate : List ℕ
  pub signature : List ℕ

-- what is told of what is opened
abbrev pub told_of : Opened → Answered
told_of o =
    record { answer = o.answer; typenumber = o.fields.typenumber; codes = o.fields.codes; content = o.fields.content; time = o.fields.time; certificate = o.fields.certificate; signature = o.fields.signature }

-- what is told beside 0
abbrev pub accepted_as : Told → Answered
accepted_as t =
    record { answer = 0; typenumber = t.typenumber; codes = t.codes; content = t.content; time = t.time; certificate = t.certificate; signature = t.signature }

-- both, as a result tells them
abbrev pub told : Result Told Refusal → Answered
told (Ok t) = accepted_as t
told (Err e) = told_of (refused_as (number_of e))

-- what an array that was lent holds then: what is opened, or what it held where the packet is refused
abbrev pub unless_refused : Opened → List ℕ → List ℕ → List ℕ
unless_refused o opens held = cond (eqb o.answer 0) opens held

-- a packet of n codes, with this content and this certificate number, beside 0
abbrev pub tells : List ℕ → ℕ → Content → List ℕ → Answered
tells b n c y =
    record { answer = 0; typenumber = type_in b; codes = n; content = c; time = at (bits b) (8 * (length b - 74)) 32; certificate = y; signature = run (bits b) (8 * (length b - 64)) 64 8 }

-- what is opened, told and in arrays
pub record Filled (o : Opened) (t : Answered) (codes entries digits : List ℕ) : Type 0 where
  pub told_is : t ≡ told_of o
  pub codes_are : codes ≡ o.codes
  pub entries_are : entries ≡ o.entries
  pub digits_are : digits ≡ o.fields.digits

-- what its lines say, where they are due nothing
pub record Lined (b : List ℕ) (t : Answered) (codes entries digits : List ℕ) : Type 0 where
  pub due : t.answer ≡ read_answer b
  pub said : t.answer ≡ 0 → Filled (opened_by 0 b) t codes entries digits
  pub nothing : (t.answer ≡ 0 → ⊥) → t ≡ told_of (refused_as t.answer)
  pub long : Long codes entries digits
