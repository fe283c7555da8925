-- The commands of the digital sister band as tables (003, 9.2.1 to 9.2.4; paper 02, K14): a row for each, and the lines before it.
use Rattle.std.specs.Prelude.{ℕ, ◌+◌, ◌*◌, List, [], ◌∷◌, Bool, false, cond, eqb, get_or}
use Rattle.format.specs.declared.Line.{Line}
use Rattle.format.specs.Format.{any, just}
use Rattle.packet.specs.declared.Kind.TheVariants as kinds
use Rattle.packet.specs.declared.Content.TheVariants as content
use Rattle.packet.specs.Table.{Row, row_of, counted, code, content_lines}
use Rattle.packet.specs.Content.{no_such_day}
use Rattle.sister.specs.declared.Kind.{Kind}
use Rattle.sister.specs.declared.Kind.TheVariants.{Clock, Resource, Lock, Unknown}
use Rattle.sister.specs.declared.Command.{Command}
use Rattle.sister.specs.declared.Command.TheVariants as command

-- ---- the commands and their tags (003, 9.2.2 to 9.2.4); no command has tag 0
abbrev pub commands : List Kind
commands = Clock ∷ Resource ∷ Lock ∷ []

-- a line a command
abbrev pub tag_of : Kind → ℕ
tag_of Clock = 1
tag_of Resource = 2
tag_of Lock = 3
tag_of Unknown = 0

-- the first of a list with the tag t
unfoldable pub tagged : ℕ → List Kind → Kind
tagged t [] = Unknown
tagged t (f ∷ fs) = cond (eqb t (tag_of f)) f (tagged t fs)

-- and so of all
unfoldable pub kind_of : ℕ → Kind
kind_of t = tagged t commands

-- neither of the three
abbrev pub is_unknown_kind : Kind → Bool
is_unknown_kind f = eqb (tag_of f) 0

-- ---- the contents (003, tables 9 to 11): the clock is our type 3, the resource code our type 1; kHz, n and n codes
abbrev pub row_for : Kind → Row
row_for Clock = row_of kinds.Clock
row_for Resource = row_of kinds.Address
row_for Lock = counted (any 32 ∷ []) code []
row_for Unknown = row_of kinds.Unknown

-- how much a command has: of bytes, of bytes of address, of codes of 23 digits; so many always, and so many for each that is counted
pub record Amounts : Type 0 where
  pub bytes : ℕ
  pub bytes_each : ℕ
  pub address_each : ℕ
  pub codes : ℕ
  pub codes_each : ℕ

-- 7 bytes; 13 + n, of which n are address, with a code; 5 + 12n, with n codes (003, 9.2.2 to 9.2.4)
abbrev pub amounts_of : Kind → Amounts
amounts_of Clock = record { bytes = 7; bytes_each = 0; address_each = 0; codes = 0; codes_each = 0 }
amounts_of Resource = record { bytes = 13; bytes_each = 1; address_each = 1; codes = 1; codes_each = 0 }
amounts_of Lock = record { bytes = 5; bytes_each = 12; address_each = 0; codes = 0; codes_each = 1 }
amounts_of Unknown = record { bytes = 0; bytes_each = 0; address_each = 0; codes = 0; codes_each = 0 }

-- the length that a command says of its content, in bytes
abbrev pub content_bytes : Kind → ℕ → ℕ
content_bytes f k = (amounts_of f).bytes + (amounts_of f).bytes_each * k

-- so many bytes of address
abbrev pub address_count : Kind → ℕ → ℕ
address_count f k = (amounts_of f).address_each * k

-- so many codes
abbrev pub code_count : Kind → ℕ → ℕ
code_count f k = (amounts_of f).codes + (amounts_of f).codes_each * k

-- the whole command (003, table 8): tag, length, content
unfoldable pub command_lines : Kind → ℕ → List Line
command_lines f k = just 8 (tag_of f) ∷ just 16 (content_bytes f k) ∷ content_lines (row_for f) k

-- ---- what the numbers of a command are called (003, tables 9 to 11): first its own, then the bytes of the address, then the digits of codes
-- the command of a kind, from its first numbers and its count
abbrev pub command_of : Kind → List ℕ → ℕ → Command
command_of Clock xs k = command.Clock (get_or xs 0 0) (get_or xs 1 0) (get_or xs 2 0) (get_or xs 3 0) (get_or xs 4 0) (get_or xs 5 0)
command_of Resource xs k = command.Resource k
command_of Lock xs k = command.Lock (get_or xs 0 0) k
command_of Unknown xs k = command.Unknown

-- and back
pub record Parts : Type 0 where
  pub kind : Kind
  pub numbers : List ℕ
  pub count : ℕ

-- a line a command; a count is 0 where there is none
abbrev pub parts_of : Command → Parts
parts_of (command.Clock year month day hour minute second) = record { kind = Clock; numbers = year ∷ month ∷ day ∷ hour ∷ minute ∷ second ∷ []; count = 0 }
parts_of (command.Resource m) = record { kind = Resource; numbers = []; count = m }
parts_of (command.Lock khz n) = record { kind = Lock; numbers = khz ∷ []; count = n }
parts_of command.Unknown = record { kind = Unknown; numbers = []; count = 0 }

-- its kind
abbrev pub kind_for : Command → Kind
kind_for c = (parts_of c).kind

-- its count
abbrev pub count_for : Command → ℕ
count_for c = (parts_of c).count

-- ---- the one rule that crosses lines: a day that the month of a clock does not have, by our type 3 (003, table 9)
abbrev pub no_day : Command → Bool
no_day (command.Clock year month day hour minute second) = no_such_day (content.Clock year month day hour minute second)
no_day (command.Resource m) = false
no_day (command.Lock khz n) = false
no_day command.Unknown = false
