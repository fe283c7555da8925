-- A clock or a resource command as the content of our packets of type 3 or 1, and back (paper 02, K14).
use Rattle.std.specs.Prelude.{◌≡◌, ℕ, List, take}
use Rattle.packet.specs.declared.Content.{Content}
use Rattle.packet.specs.declared.Content.TheVariants as content
use Rattle.packet.specs.Reading.{padded}
use Rattle.sister.specs.declared.Command.{Command}
use Rattle.sister.specs.declared.Command.TheVariants as command

-- the content of a command; raw where our packets have none
abbrev pub content_for : Command → Content
content_for (command.Clock year month day hour minute second) = content.Clock year month day hour minute second
content_for (command.Resource m) = content.Address m
content_for (command.Lock khz n) = content.Raw
content_for command.Unknown = content.Raw

-- the command of a content; none where the sister band has none
abbrev pub command_for : Content → Command
command_for content.Raw = command.Unknown
command_for (content.Frequencies k) = command.Unknown
command_for (content.Address m) = command.Resource m
command_for (content.Keep on period) = command.Unknown
command_for (content.Clock year month day hour minute second) = command.Clock year month day hour minute second
command_for (content.Reset change) = command.Unknown
command_for content.Factory = command.Unknown
command_for (content.Drill action) = command.Unknown
command_for (content.Text kind set t) = command.Unknown
command_for (content.Hold serial) = command.Unknown

-- a resource command has one code, whose digits stand beside a content of type 1
abbrev pub code_digits : Command → ℕ
code_digits (command.Clock year month day hour minute second) = 0
code_digits (command.Resource m) = 23
code_digits (command.Lock khz n) = 0
code_digits command.Unknown = 0

-- the digits beside the content, of the digits of a command's codes
abbrev pub digits_for : Command → List ℕ → List ℕ
digits_for c codes = padded 35 (take (code_digits c) codes)

-- and back: those of its code, of the digits beside a content
abbrev pub code_for : Content → List ℕ → List ℕ
code_for c digits = take (code_digits (command_for c)) digits

-- ---- what the theorems about there and back say (02, K14)
-- a command with the digits of its codes is the same
pub record CommandSame (c : Command) (codes : List ℕ) : Type 0 where
  pub command_same : command_for (content_for c) ≡ c
  pub codes_same : code_for (content_for c) (digits_for c codes) ≡ codes

-- and so is a content with the digits beside it
pub record ContentSame (c : Content) (digits : List ℕ) : Type 0 where
  pub content_same : content_for (command_for c) ≡ c
  pub digits_same : digits_for (command_for c) (code_for c digits) ≡ digits
