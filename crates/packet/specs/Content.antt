-- What the numbers of a content are called, and back (paper 01, the table of "Packet").
use Rattle.std.specs.Prelude.{ℕ, List, [], ◌∷◌, Bool, false, not, length, get_or, leb}
use Rattle.days.specs.Days.{days_in}
use Rattle.packet.specs.declared.Kind.{Kind}
use Rattle.packet.specs.declared.Kind.TheVariants.{Frequencies, Address, Keep, Clock, Reset, Factory, Drill, Text, Hold, Raw, Unknown}
use Rattle.packet.specs.declared.Content.{Content}
use Rattle.packet.specs.declared.Content.TheVariants as content
use Rattle.packet.specs.Table.{row_of, count_by}

-- the content of a kind, from the numbers that stand before its count, and its count
abbrev pub content_of : Kind → List ℕ → ℕ → Content
content_of Frequencies xs k = content.Frequencies k
content_of Address xs k = content.Address k
content_of Keep xs k = content.Keep (get_or xs 0 0) (get_or xs 1 0)
content_of Clock xs k = content.Clock (get_or xs 0 0) (get_or xs 1 0) (get_or xs 2 0) (get_or xs 3 0) (get_or xs 4 0) (get_or xs 5 0)
content_of Reset xs k = content.Reset (get_or xs 0 0)
content_of Factory xs k = content.Factory
content_of Drill xs k = content.Drill (get_or xs 0 0)
content_of Text xs k = content.Text (get_or xs 0 0) (get_or xs 1 0) k
content_of Hold xs k = content.Hold (get_or xs 0 0)
content_of Raw xs k = content.Raw
content_of Unknown xs k = content.Raw

-- and back: a content's kind, the numbers that stand before its count, and its count; 0 where it has none of its own
pub record Parts : Type 0 where
  pub kind : Kind
  pub numbers : List ℕ
  pub count : ℕ

-- a line a type
abbrev pub parts_of : Content → Parts
parts_of content.Raw = record { kind = Raw; numbers = []; count = 0 }
parts_of (content.Frequencies k) = record { kind = Frequencies; numbers = []; count = k }
parts_of (content.Address m) = record { kind = Address; numbers = []; count = m }
parts_of (content.Keep on period) = record { kind = Keep; numbers = on ∷ period ∷ []; count = 0 }
parts_of (content.Clock year month day hour minute second) = record { kind = Clock; numbers = year ∷ month ∷ day ∷ hour ∷ minute ∷ second ∷ []; count = 0 }
parts_of (content.Reset change) = record { kind = Reset; numbers = change ∷ []; count = 0 }
parts_of content.Factory = record { kind = Factory; numbers = []; count = 0 }
parts_of (content.Drill action) = record { kind = Drill; numbers = action ∷ []; count = 0 }
parts_of (content.Text kind set t) = record { kind = Text; numbers = kind ∷ set ∷ []; count = t }
parts_of (content.Hold serial) = record { kind = Hold; numbers = serial ∷ []; count = 0 }

-- its kind
abbrev pub kind_for : Content → Kind
kind_for c = (parts_of c).kind

-- its numbers
abbrev pub numbers_of : Content → List ℕ
numbers_of c = (parts_of c).numbers

-- how many numbers a kind has; the digits stand after them
abbrev pub numbers_in : Kind → ℕ
numbers_in f = length (numbers_of (content_of f [] 0))

-- its count: k, m or t; a raw content has none of its own, and is as long as what is lent
abbrev pub count_for : Content → List ℕ → ℕ
count_for c body = count_by (row_of (kind_for c)).counting (parts_of c).count (length body)

-- ---- the one rule that crosses lines: the days of a month
-- no such day
abbrev pub no_such_day : Content → Bool
no_such_day content.Raw = false
no_such_day (content.Frequencies k) = false
no_such_day (content.Address m) = false
no_such_day (content.Keep on period) = false
no_such_day (content.Clock year month day hour minute second) = not (leb day (days_in year month))
no_such_day (content.Reset change) = false
no_such_day content.Factory = false
no_such_day (content.Drill action) = false
no_such_day (content.Text kind set t) = false
no_such_day (content.Hold serial) = false
