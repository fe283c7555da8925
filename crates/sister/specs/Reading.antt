-- What a command's bytes say, and what a reader answers (003, 9.2; paper 02, K14).
use Rattle.std.specs.Prelude.{ℕ, zero, suc, ◌+◌, List, [], ◌∷◌, Bool, not, ◌&&◌, ◌||◌, length, drop, ltb, eqb, Result, Ok, Err}
use Rattle.laws.specs.Bits.{at, bits}
use Rattle.laws.specs.Refusals.{Case, first}
use Rattle.format.specs.declared.Line.{Line}
use Rattle.format.specs.Format.{need, decode, flat, fine}
use Rattle.refusal.specs.declared.Refusal.{Refusal}
use Rattle.refusal.specs.Refusal.{number_of}
use Rattle.packet.specs.Table.{count_in}
use Rattle.packet.specs.Reading.{zeros, padded, part_by}
use Rattle.sister.specs.declared.Kind.{Kind}
use Rattle.sister.specs.declared.Command.{Command}
use Rattle.sister.specs.declared.Command.TheVariants as command
use Rattle.sister.specs.declared.Opened as given
use Rattle.sister.specs.Table.{kind_of, is_unknown_kind, row_for, content_bytes, command_lines, address_count, command_of, no_day}

-- ---- tag and length (003, table 8)
abbrev pub tag_in : List ℕ → ℕ
tag_in b = at (bits b) 0 8

-- the bytes of the content
abbrev pub length_in : List ℕ → ℕ
length_in b = at (bits b) 8 16

-- the command that the tag names
abbrev pub kind_in : List ℕ → Kind
kind_in b = kind_of (tag_in b)

-- n, where there is one
unfoldable pub count_of : List ℕ → ℕ
count_of b = count_in (row_for (kind_in b)) (bits b) 24 0

-- ---- the table that the command names, its values by it, and the numbers of its free lines in one list (our table language)
unfoldable pub table_of : List ℕ → List Line
table_of b = command_lines (kind_in b) (count_of b)

-- a list of numbers for each line
abbrev pub values_in : List ℕ → List (List ℕ)
values_in b = decode (table_of b) (bits b) 0

-- all of them
unfoldable pub numbers_in : List ℕ → List ℕ
numbers_in b = flat (table_of b) (values_in b)

-- what they are called
unfoldable pub command_in : List ℕ → Command
command_in b = command_of (kind_in b) (numbers_in b) (count_of b)

-- the digits of the codes: what stands behind the first numbers and the address
unfoldable pub codes_in : List ℕ → List ℕ
codes_in b = drop (need (row_for (kind_in b)).before + address_count (kind_in b) (count_of b)) (numbers_in b)

-- ---- the answer (paper 02, K14)
-- 26: the length field is not that of what follows, or not that of the command
unfoldable pub length_bad : List ℕ → Bool
length_bad b = not (eqb (length b) (3 + length_in b) && eqb (length_in b) (content_bytes (kind_in b) (count_of b)))

-- 27: a field outside its range, or no such day
unfoldable pub field_bad : List ℕ → Bool
field_bad b = not (fine 27 (table_of b) (values_in b)) || no_day (command_in b)

-- in this order
abbrev pub read_cases : List ℕ → List Case
read_cases b =
    (ltb (length b) 3, 26)
    ∷ (is_unknown_kind (kind_in b), 39)
    ∷ (length_bad b, 26)
    ∷ (not (fine 24 (table_of b) (values_in b)), 24)
    ∷ (not (fine 25 (table_of b) (values_in b)), 25)
    ∷ (field_bad b, 27)
    ∷ []

-- the reader's number
unfoldable pub read_answer : List ℕ → ℕ
read_answer b = first (read_cases b)

-- ---- what is opened
-- a number given back, a command and its codes
pub record Opened : Type 0 where
  pub answer : ℕ
  pub command : Command
  pub codes : List ℕ

-- beside a refusal no command, and zeros (01, Numbers given back)
abbrev pub refused_as : ℕ → Opened
refused_as a = record { answer = a; command = command.Unknown; codes = zeros 5865 }

-- all that is opened beside 0: at most 255 codes of 23 digits
abbrev pub opened_by : ℕ → List ℕ → Opened
opened_by zero b = record { answer = 0; command = command_in b; codes = padded 5865 (codes_in b) }
opened_by (suc a) b = refused_as (suc a)

-- the three that a result tells
abbrev pub read_told : Result given.Opened Refusal → Opened
read_told (Ok o) = record { answer = 0; command = o.command; codes = o.codes }
read_told (Err e) = refused_as (number_of e)

-- what is told of what `read` gives
unfoldable pub opened : List ℕ → Opened
opened b = opened_by (read_answer b) b

-- the address, behind tag, length and count (003, table 10)
unfoldable pub address_of : List ℕ → List ℕ
address_of b = part_by (read_answer b) 4 (address_count (kind_in b) (count_of b)) b
