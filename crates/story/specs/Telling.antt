-- The packets of a story, and what telling it answers (paper 02, K1).
use Rattle.std.specs.Prelude.{Result, Ok, Err, ℕ, zero, suc, ◌+◌, ◌-◌, ◌*◌, ◌/◌, ◌%◌, List, [], ◌∷◌, ◌++◌, length, take, get_or, ltb}
use Rattle.laws.specs.Refusals.{Case, first}
use Rattle.packet.specs.declared.Content.TheVariants as content
use Rattle.packet.specs.declared.Fields.{Fields}
use Rattle.packet.specs.Writing.{write_cases, bytes_for, output_by}
use Rattle.story.specs.declared.Story.{Story}
use Rattle.story.specs.declared.Told.{Told as Extent}
use Rattle.refusal.specs.declared.Refusal.{Refusal}
use Rattle.refusal.specs.Refusal.{number_of}
use Rattle.story.specs.Characters.{lone, parted}
use Rattle.laws.specs.Lists.{together}

-- ---- a part's head: part digit, '/', total digit, space
abbrev pub head_of : ℕ → ℕ → List ℕ
head_of k n = (48 + k) ∷ 47 ∷ (48 + n) ∷ 32 ∷ []

-- with n codes a part has room for so many bytes of text: 250 less 97, 12 a code and the head
abbrev pub room_with : ℕ → ℕ
room_with n = 149 - 12 * n

-- ---- message numbers
-- the last four of 35 digits, as a number
abbrev pub last_four : List ℕ → ℕ
last_four ds = get_or ds 31 0 * 1000 + get_or ds 32 0 * 100 + get_or ds 33 0 * 10 + get_or ds 34 0

-- four digits of a number
abbrev pub four_of : ℕ → List ℕ
four_of x = x / 1000 % 10 ∷ x / 100 % 10 ∷ x / 10 % 10 ∷ x % 10 ∷ []

-- the number k after: the first 31 digits stay, the last four rise by k
unfoldable pub number_after : List ℕ → ℕ → List ℕ
number_after ds k = take 31 ds ++ four_of (last_four ds + k)

-- ---- the packets
-- type 15, set 0; a body of t bytes
abbrev pub fields_with : Story → List ℕ → ℕ → Fields
fields_with s ds t =
    record {
      typenumber = 15;
      codes = s.codes;
      content = content.Text s.kind 0 t;
      digits = ds;
      time = s.time;
      certificate = s.certificate;
      signature = s.signature;
    }

-- the fields of the part with k parts before it, whose text is p
abbrev pub part_fields : Story → ℕ → List ℕ → Fields
part_fields s k p = fields_with s (number_after s.digits k) (4 + length p)

-- its body, of n parts
abbrev pub part_body : ℕ → ℕ → List ℕ → List ℕ
part_body n k p = head_of (k + 1) n ++ p

-- and its packet, as the packet writer writes it
unfoldable pub part_packet : Story → List ℕ → ℕ → ℕ → List ℕ → List ℕ
part_packet s codes n k p = bytes_for (part_fields s k p) codes (part_body n k p)

-- the packets of the parts ps of n, which have k parts before them
unfoldable pub packets_from : Story → List ℕ → ℕ → ℕ → List (List ℕ) → List (List ℕ)
packets_from s codes n k [] = []
packets_from s codes n k (p ∷ ps) = part_packet s codes n k p ∷ packets_from s codes n (k + 1) ps

-- the texts of a story's parts, and how many they are
abbrev pub part_texts : Story → List ℕ → List (List ℕ)
part_texts s text = parted (room_with s.codes) text

-- so many parts
abbrev pub part_count : Story → List ℕ → ℕ
part_count s text = length (part_texts s text)

-- its packets
unfoldable pub packets_of : Story → List ℕ → List ℕ → List (List ℕ)
packets_of s codes text = packets_from s codes (part_count s text) 0 (part_texts s text)

-- what goes out: the packets back to back
unfoldable pub bytes_of : Story → List ℕ → List ℕ → List ℕ
bytes_of s codes text = together (packets_of s codes text)

-- ---- the answer
-- the packet writer's own cases but 10, for a part with no text: 23, 26, 25, 27, 20
abbrev pub own_cases : Story → List ℕ → List Case
own_cases s codes = take 5 (write_cases (fields_with s s.digits 4) codes (head_of 1 1) 250)

-- then 30, a lone last byte; 31, more than nine parts; 32, a number past 9999; 10, output too short
abbrev pub later_cases : Story → List ℕ → List ℕ → ℕ → List Case
later_cases s codes text room =
    (lone text, 30)
    ∷ (ltb 9 (part_count s text), 31)
    ∷ (ltb 9999 (last_four s.digits + (part_count s text - 1)), 32)
    ∷ (ltb room (length (bytes_of s codes text)), 10)
    ∷ []

-- the cases of `tell`
abbrev pub tell_cases : Story → List ℕ → List ℕ → ℕ → List Case
tell_cases s codes text room = own_cases s codes ++ later_cases s codes text room

-- its number
unfoldable pub told_answer : Story → List ℕ → List ℕ → ℕ → ℕ
told_answer s codes text room = first (tell_cases s codes text room)

-- ---- what is given back: parts and bytes beside 0, zeros beside a refusal
-- a number given back, how many parts, and how many bytes in all
pub record Told : Type 0 where
  pub answer : ℕ
  pub parts : ℕ
  pub length : ℕ

-- the three that a result tells
abbrev pub told_as : Result Extent Refusal → Told
told_as (Ok t) = record { answer = 0; parts = t.parts; length = t.length }
told_as (Err e) = record { answer = number_of e; parts = 0; length = 0 }

abbrev pub told_by : ℕ → ℕ → ℕ → Told
told_by zero n m = record { answer = 0; parts = n; length = m }
told_by (suc a) n m = record { answer = suc a; parts = 0; length = 0 }

-- what `tell` gives
unfoldable pub told : Story → List ℕ → List ℕ → ℕ → Told
told s codes text room = told_by (told_answer s codes text room) (part_count s text) (length (bytes_of s codes text))

-- what it leaves in the lent output: the packets from its first byte, the rest as it was; all as it was beside a refusal
unfoldable pub tell_output : Story → List ℕ → List ℕ → List ℕ → List ℕ
tell_output s codes text out = output_by (told_answer s codes text (length out)) (bytes_of s codes text) out
