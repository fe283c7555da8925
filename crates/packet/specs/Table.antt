-- The packet as a table (000, 6.1.1 and 6.1.2; paper 01, "Packet"): a row for each kind of content, and the lines about them.
use Rattle.std.specs.Prelude.{ℕ, ◌+◌, ◌*◌, ◌-◌, List, [], ◌∷◌, ◌++◌, Bool, true, false, ◌&&◌, ◌||◌, leb, eqb}
use Rattle.laws.specs.Bits.{at}
use Rattle.format.specs.declared.Line.{Line}
use Rattle.format.specs.Format.{num, only, any, ones, digits, octets, just, times, size}
use Rattle.packet.specs.declared.Kind.{Kind}
use Rattle.packet.specs.declared.Kind.TheVariants.{Frequencies, Address, Keep, Clock, Reset, Factory, Drill, Text, Hold, Raw, Unknown}
use Rattle.packet.specs.declared.Counting.{Counting}
use Rattle.packet.specs.declared.Counting.TheVariants as counting

-- ---- the types (000, table 2), two columns: the kind as which one is read, and whether one that is read is also written
abbrev pub pick : Bool → Kind → Kind → Kind
pick true a b = a
pick false a b = b

-- what is opened, what is carried raw, and what is refused (000, table 2; 01, What travels); type 16 since the licence ended, for old shelves (02, K13)
unfoldable pub kind_of : ℕ → Kind
kind_of t =
    pick (leb 25 t) Unknown
    (pick (eqb t 0) Frequencies
    (pick (eqb t 1) Address
    (pick (eqb t 2) Keep
    (pick (eqb t 3) Clock
    (pick (eqb t 12) Reset
    (pick (eqb t 13) Factory
    (pick (eqb t 14) Drill
    (pick (eqb t 15) Text
    (pick (eqb t 16) Raw
    (pick (eqb t 21) Hold
    (pick (leb 4 t && leb t 8) Raw
    (pick (eqb t 11) Raw
    (pick (leb 22 t && leb t 24) Raw
    Unknown)))))))))))))

-- what is read and no longer written: the fast command, type 16 (02, K13)
abbrev pub only_read : ℕ → Bool
only_read t = eqb t 16

-- the kinds
abbrev pub kinds : List Kind
kinds = Frequencies ∷ Address ∷ Keep ∷ Clock ∷ Reset ∷ Factory ∷ Drill ∷ Text ∷ Hold ∷ Raw ∷ Unknown ∷ []

-- a type of each kind, for comparing kinds: the only one, but for Raw and Unknown (000, table 2)
abbrev pub type_of : Kind → ℕ
type_of Frequencies = 0
type_of Address = 1
type_of Keep = 2
type_of Clock = 3
type_of Reset = 12
type_of Factory = 13
type_of Drill = 14
type_of Text = 15
type_of Hold = 21
type_of Raw = 4
type_of Unknown = 31

-- the types that a reader answers 23 (01, Numbers given back); the last of the kinds above is theirs: `packet:ByType.refused_types`
abbrev pub refused_type : ℕ → Bool
refused_type t = leb 25 t || (eqb t 9 || (eqb t 10 || (leb 17 t && leb t 20)))

-- and those that a writer does, 16 among them (02, K13): `packet:ByType.unwritten_types`
abbrev pub unwritten_type : ℕ → Bool
unwritten_type t = leb 25 t || (eqb t 9 || (eqb t 10 || (leb 16 t && leb t 20)))

-- ---- the column of content bytes (01, Packet), k being the row's k, m or t, and the bytes of a raw content
abbrev pub content_bytes : Kind → ℕ → ℕ
content_bytes Frequencies k = 1 + 5 * k
content_bytes Address k = 13 + k
content_bytes Keep k = 3
content_bytes Clock k = 7
content_bytes Reset k = 4
content_bytes Factory k = 1
content_bytes Drill k = 19
content_bytes Text k = 20 + k
content_bytes Hold k = 2
content_bytes Raw k = k
content_bytes Unknown k = 0

-- ---- a row of the table of contents: lines, a row of lines that is repeated, lines; where counted, the count stands after the first (01, Packet)
pub record Row : Type 0 where
  pub counting : Counting
  pub before : List Line
  pub each : List Line
  pub after : List Line

-- a row with no count
abbrev pub fixed : List Line → Row
fixed ls = record { counting = counting.Fixed; before = ls; each = []; after = [] }

-- a row whose repeated lines are counted
abbrev pub counted : List Line → List Line → List Line → Row
counted ls row rest = record { counting = counting.Counted; before = ls; each = row; after = rest }

-- the table of contents
abbrev pub row_of : Kind → Row
row_of Frequencies = counted [] (num 8 1 255 ∷ any 8 ∷ digits 6 ∷ []) []
row_of Address = counted [] (octets 1 ∷ []) (ones 4 ∷ digits 23 ∷ [])
row_of Keep = fixed (num 8 0 1 ∷ any 16 ∷ [])
row_of Clock = fixed (any 16 ∷ num 8 1 12 ∷ num 8 1 31 ∷ num 8 0 23 ∷ num 8 0 59 ∷ num 8 0 59 ∷ [])
row_of Reset = fixed (only 2 1 ∷ num 2 1 2 ∷ ones 4 ∷ digits 6 ∷ [])
row_of Factory = fixed (only 2 1 ∷ ones 6 ∷ [])
row_of Drill = fixed (only 4 1 ∷ num 4 1 2 ∷ ones 4 ∷ digits 35 ∷ [])
row_of Text = counted (num 4 1 3 ∷ num 4 0 4 ∷ ones 4 ∷ digits 35 ∷ []) (octets 1 ∷ []) []
row_of Hold = fixed (any 8 ∷ ones 8 ∷ [])
row_of Raw = record { counting = counting.Raw; before = []; each = octets 1 ∷ []; after = [] }
row_of Unknown = record { counting = counting.Unknown; before = []; each = []; after = [] }

-- the count of a counted content, k; it has 8 bits
abbrev pub count_line : Counting → ℕ → List Line
count_line counting.Fixed k = []
count_line counting.Counted k = just 8 k ∷ []
count_line counting.Raw k = []
count_line counting.Unknown k = []

-- the lines of a content whose row stands k times
unfoldable pub content_lines : Row → ℕ → List Line
content_lines r k = r.before ++ (count_line r.counting k ++ (times k r.each ++ r.after))

-- ---- the whole packet (000, table 1; the code n times)
abbrev pub code : List Line
code = ones 4 ∷ digits 23 ∷ []

-- time, certificate number, signature
abbrev pub ending : List Line
ending = any 32 ∷ digits 12 ∷ octets 64 ∷ []

-- a packet of type t and p bytes, with n codes and a content whose row stands k times
unfoldable pub packet : Row → ℕ → ℕ → ℕ → ℕ → List Line
packet r t p n k = just 5 t ∷ just 11 (p - 2) ∷ just 8 n ∷ (times n code ++ (content_lines r k ++ ending))

-- how often the row stands: as the count k says, or once a byte of the m there are
abbrev pub count_by : Counting → ℕ → ℕ → ℕ
count_by counting.Fixed k m = 0
count_by counting.Counted k m = k
count_by counting.Raw k m = m
count_by counting.Unknown k m = 0

-- in a content of m bytes that begins at place q of the bits l
abbrev pub count_in : Row → List ℕ → ℕ → ℕ → ℕ
count_in r l q m = count_by r.counting (at l (q + size r.before) 8) m
