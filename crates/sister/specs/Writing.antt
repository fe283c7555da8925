-- The bytes of a command, and what a writer answers (003, 9.2; paper 02, K14).
use Rattle.std.specs.Prelude.{ℕ, ◌+◌, ◌*◌, List, [], ◌∷◌, ◌++◌, Bool, not, ◌&&◌, ◌||◌, length, leb, ltb, eqb}
use Rattle.laws.specs.Bits.{bytes}
use Rattle.laws.specs.Refusals.{Case, first}
use Rattle.format.specs.declared.Line.{Line}
use Rattle.format.specs.Format.{encode, fill, fine}
use Rattle.packet.specs.Writing.{Written, written_by, output_by}
use Rattle.sister.specs.declared.Command.{Command}
use Rattle.sister.specs.Table.{is_unknown_kind, content_bytes, command_lines, address_count, code_count, parts_of, kind_for, count_for, no_day}

-- ---- the command's size, table, numbers and bytes (003, table 8)
abbrev pub size_for : Command → ℕ
size_for c = 3 + content_bytes (kind_for c) (count_for c)

-- its lines
unfoldable pub table_for : Command → List Line
table_for c = command_lines (kind_for c) (count_for c)

-- the numbers of all free lines, in their order
unfoldable pub numbers_for : Command → List ℕ → List ℕ → List ℕ
numbers_for c address codes = (parts_of c).numbers ++ (address ++ codes)

-- the same by lines
abbrev pub values_for : Command → List ℕ → List ℕ → List (List ℕ)
values_for c address codes = fill (table_for c) (numbers_for c address codes)

-- the command
unfoldable pub bytes_for : Command → List ℕ → List ℕ → List ℕ
bytes_for c address codes = bytes (encode (table_for c) (values_for c address codes))

-- ---- the answer (paper 02, K14)
-- 26: n is above 255, or the address or the codes that are lent are not as many as the command has
unfoldable pub count_bad : Command → List ℕ → List ℕ → Bool
count_bad c address codes =
    not (leb (count_for c) 255
    && (eqb (length address) (address_count (kind_for c) (count_for c)) && eqb (length codes) (23 * code_count (kind_for c) (count_for c))))

-- 25: a digit above 9
unfoldable pub digit_bad : Command → List ℕ → List ℕ → Bool
digit_bad c address codes = not (fine 25 (table_for c) (values_for c address codes))

-- 27: a field outside its range, or no such day
unfoldable pub field_bad : Command → List ℕ → List ℕ → Bool
field_bad c address codes = not (fine 27 (table_for c) (values_for c address codes)) || no_day c

-- in this order; 39 for what is no command
abbrev pub write_cases : Command → List ℕ → List ℕ → ℕ → List Case
write_cases c address codes room =
    (is_unknown_kind (kind_for c), 39)
    ∷ (count_bad c address codes, 26)
    ∷ (digit_bad c address codes, 25)
    ∷ (field_bad c address codes, 27)
    ∷ (ltb room (size_for c), 10)
    ∷ []

-- the writer's number
unfoldable pub written_answer : Command → List ℕ → List ℕ → ℕ → ℕ
written_answer c address codes room = first (write_cases c address codes room)

-- what `write` gives
unfoldable pub written : Command → List ℕ → List ℕ → ℕ → Written
written c address codes room = written_by (written_answer c address codes room) (size_for c)

-- what it leaves in the lent output
unfoldable pub command_output : Command → List ℕ → List ℕ → List ℕ → List ℕ
command_output c address codes out = output_by (written_answer c address codes (length out)) (bytes_for c address codes) out
