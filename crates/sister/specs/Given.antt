-- What the theorems about commands there and back are said with: values of their types, and what goes from writer to reader and back (K14).
use Rattle.std.specs.Prelude.{◌≡◌, List, Bool, true, ℕ, ◌*◌, length, take}
use Rattle.laws.specs.Bits.{Under}
use Rattle.format.specs.Format.{fill, fine}
use Rattle.packet.specs.Reading.{padded}
use Rattle.sister.specs.declared.Command.{Command}
use Rattle.sister.specs.Table.{row_for, code_count, parts_of, kind_for, count_for}
use Rattle.sister.specs.Reading.{Opened, opened, address_of}
use Rattle.sister.specs.Writing.{written, command_output}

-- the numbers of lines that no answer is about, a year and kHz, have the bits of their lines, as their types u16 and u32 have (ours: the compiler gives it)
abbrev pub held : Command → Bool
held c = fine 0 (row_for (kind_for c)).before (fill (row_for (kind_for c)).before (parts_of c).numbers)

-- a command and an address of their types
pub record Typed (c : Command) (address : List ℕ) : Type 0 where
  pub numbers_held : held c ≡ true
  pub address_held : Under 256 address

-- the bytes that the writer writes: as many from the output's start as it says
abbrev pub bytes_of : Command → List ℕ → List ℕ → List ℕ → List ℕ
bytes_of c address codes out = take (written c address codes (length out)).length (command_output c address codes out)

-- the reader's functions give them back
pub record GivesBack (c : Command) (address codes b : List ℕ) : Type 0 where
  pub all_read : opened b ≡ record { answer = 0; command = c; codes = padded 5865 codes }
  pub address_part : address_of b ≡ address

-- what is lent of the codes that were read: as many digits as there are
abbrev pub lent_codes : Opened → List ℕ
lent_codes o = take (23 * code_count (kind_for o.command) (count_for o.command)) o.codes
