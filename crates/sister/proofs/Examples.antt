-- Commands worked out by hand from 003's tables 8 to 11. Assumes nothing.
use mathlib.Core.Path.{◌≡◌, refl}
use mathlib.Core.List.{List, [], ◌∷◌}
use mathlib.Core.Bool.{true}
use Prim.Native.Nat.{ℕ, ◌≤◌}
use native.Mathlib.Omega.{arith}
use borrow.Author.Tests.{le-leb}
use Rattle.laws.specs.Bits.{at, bits_of, run, spread}
use Rattle.laws.specs.Refusals.{first}
use Rattle.format.specs.Format.{times, size, need, encode, decode, fill, flat, inside, fine}
use Rattle.days.specs.Days.{days_in}
use Rattle.packet.specs.Table.{content_lines}
use Rattle.sister.specs.declared.Command.TheVariants.{Clock, Lock}
use Rattle.sister.specs.Table.{tagged, kind_of, command_lines}
use Rattle.sister.specs.Reading as reading
use Rattle.sister.specs.Reading.{count_of, table_of, numbers_in, command_in, codes_in, length_bad, read_answer}
use Rattle.sister.specs.Given.{held}
use Rattle.sister.specs.Writing.{table_for, numbers_for, bytes_for}

-- 10 November 2014, 12:13:14; the year is 0x07DE (003, table 9)
abbrev clock : List ℕ
clock = 1 ∷ 0 ∷ 7 ∷ 7 ∷ 222 ∷ 11 ∷ 10 ∷ 12 ∷ 13 ∷ 14 ∷ []

pub clock_read : (read_answer clock ≡ 0) × (command_in clock ≡ Clock 2014 11 10 12 13 14)
unfolding read_answer first command_in numbers_in table_of count_of command_lines content_lines kind_of tagged decode flat run at spread bits_of fine inside length_bad reading.field_bad times days_in
clock_read = (refl, refl)

pub clock_written : bytes_for (Clock 2014 11 10 12 13 14) [] [] ≡ clock
unfolding bytes_for table_for numbers_for command_lines content_lines encode fill run at spread bits_of times
clock_written = refl

-- 98.0 MHz for one receiver, 98,000 kHz or 0x00017ED0 (003, table 11)
abbrev lock : List ℕ
lock = 3 ∷ 0 ∷ 17 ∷ 0 ∷ 1 ∷ 126 ∷ 208 ∷ 1 ∷ 241 ∷ 35 ∷ 69 ∷ 103 ∷ 137 ∷ 1 ∷ 35 ∷ 69 ∷ 103 ∷ 137 ∷ 1 ∷ 35 ∷ []

-- its code, F1 23 45 67 89 01 23 45 67 89 01 23 in bytes
abbrev digits : List ℕ
digits = 1 ∷ 2 ∷ 3 ∷ 4 ∷ 5 ∷ 6 ∷ 7 ∷ 8 ∷ 9 ∷ 0 ∷ 1 ∷ 2 ∷ 3 ∷ 4 ∷ 5 ∷ 6 ∷ 7 ∷ 8 ∷ 9 ∷ 0 ∷ 1 ∷ 2 ∷ 3 ∷ []

pub lock_read : (read_answer lock ≡ 0) × (command_in lock ≡ Lock 98000 1) × (codes_in lock ≡ digits)
unfolding read_answer first command_in codes_in numbers_in table_of count_of command_lines content_lines kind_of tagged decode flat run at spread bits_of fine inside length_bad reading.field_bad times need size
lock_read = (refl, refl, refl)

pub lock_written : bytes_for (Lock 98000 1) [] digits ≡ lock
unfolding bytes_for table_for numbers_for command_lines content_lines encode fill run at spread bits_of times
lock_written = refl

-- ---- what the types of the two numbers that no answer is about give: u16 and u32
pub year_held : (year month day hour minute second : ℕ) → year ≤ 65535 → held (Clock year month day hour minute second) ≡ true
unfolding fine fill inside
year_held year month day hour minute second h = rw (le-leb 0 year (omega arith), le-leb year 65535 h)

pub khz_held : (khz n : ℕ) → khz ≤ 4294967295 → held (Lock khz n) ≡ true
unfolding fine fill inside
khz_held khz n h = rw (le-leb 0 khz (omega arith), le-leb khz 4294967295 h)
