-- One number for the marks of a place (02, K11): bit k for frame k, the top bit always 0. The records that the calls take and give hold
-- it; each is seen as a record with 63 marks, and what a call gives is what the definitions say of that one.
use Rattle.std.specs.Prelude.{Result, Ok, Err, Bool, false, cond, not, ◌&&◌, List, [], ◌∷◌, ◌++◌, map, ℕ, zero, suc, ◌+◌, ◌*◌, ◌/◌, ◌%◌, ◌^◌, ltb, eqb}
use Rattle.laws.specs.Scan.{all}
use Rattle.laws.specs.Refusals.{Case}
use Rattle.refusal.specs.declared.Refusal.{Refusal}
use Rattle.refusal.specs.Refusal.{number_of as number_in, answer_of, value_or}
use Rattle.frame.specs.Heading.{refusals}
use Rattle.collector.specs.declared.Place.{Place}
use Rattle.collector.specs.declared.Collector.{Collector}
use Rattle.collector.specs.declared.Offered.{Offered as Left}
use Rattle.collector.specs.declared.Holding.{Holding}
use Rattle.collector.specs.declared.Holdings.{Holdings}
use Rattle.collector.specs.Places.{kept_number, copy_cases, Copied}
use Rattle.collector.specs.Collector.{Offered, nothing, good, place_of, piece_of, take_cases, offered, released, answered, copied}

-- ---- a number and its marks

-- the n lowest bits of a number as marks, the lowest first
unfoldable pub marks_from : ℕ → ℕ → List Bool
marks_from zero m = []
marks_from (suc n) m = eqb (m % 2) 1 ∷ marks_from n (m / 2)

-- bit k is the mark of frame k; the top bit is none
abbrev pub marks_of : ℕ → List Bool
marks_of m = marks_from 63 m

-- the number whose bits are the marks
unfoldable pub number_of : List Bool → ℕ
number_of [] = 0
number_of (b ∷ bs) = number_of bs * 2 + cond b 1 0

-- the top bit is 0
abbrev pub top_clear : Holding → Bool
top_clear p = ltb p.marks (2 ^ 63)

-- in every place, free ones too
abbrev pub tops_clear : Holdings → Bool
tops_clear h = all top_clear h.places

-- ---- the record seen with 63 marks, and back

-- a place
abbrev pub as_place : Holding → Place
as_place p =
    record { held = p.held; level = p.level; version = p.version; total = p.total; marks = marks_of p.marks; bytes = p.bytes }

-- all four
abbrev pub as_collector : Holdings → Collector
as_collector h = record { places = map as_place h.places }

-- a number given back, and the record then
pub record Outcome : Type 0 where
  pub answer : ℕ
  pub collector : Holdings

-- what a call gives back
abbrev pub as_offered : Outcome → Offered
as_offered r = record { answer = r.answer; collector = as_collector r.collector }

-- what an offer that is not refused leaves
abbrev pub left_by : Left → Outcome
left_by o = record { answer = kept_number o.kept; collector = o.collector }

-- what the result of an offer tells: beside a refusal what was held stands (01, Numbers given back)
abbrev pub offer_told : Holdings → Result Left Refusal → Outcome
offer_told h (Ok o) = left_by o
offer_told h (Err e) = record { answer = number_in e; collector = h }

-- what the result of a release tells: beside a refusal what was held stands (01, Numbers given back)
abbrev pub release_told : Holdings → Result Holdings Refusal → Outcome
release_told h r = record { answer = answer_of r; collector = value_or h r }

-- a place, back
abbrev pub from_place : Place → Holding
from_place p =
    record { held = p.held; level = p.level; version = p.version; total = p.total; marks = number_of p.marks; bytes = p.bytes }

-- all four, back
abbrev pub from_collector : Collector → Holdings
from_collector c = record { places = map from_place c.places }

-- what a call gives back, back
abbrev pub from_offered : Offered → Outcome
from_offered o = record { answer = o.answer; collector = from_collector o.collector }

-- a place made free, bytes and marks as they were
abbrev pub made_free : Holding → Holding
made_free p = record { held = false; level = p.level; version = p.version; total = p.total; marks = p.marks; bytes = p.bytes }

-- what stands past the last place
abbrev pub blank_holding : Holding
blank_holding = record { held = false; level = 0; version = 0; total = record { 0 = 0 }; marks = 0; bytes = [] }

-- ---- the calls: 28 where a top bit is set (02, K11), else what is said of the record with 63 marks

-- nothing is held
abbrev pub no_holdings : Holdings
no_holdings = from_collector nothing

-- 28 beside the record as it was
abbrev pub bad_record : Holdings → Outcome
bad_record h = record { answer = 28; collector = h }

-- not 28: no top bit is set, and the record seen is good
abbrev pub sound : Holdings → Bool
sound h = tops_clear h && good (as_collector h).places

-- the cases of an offer
unfoldable pub offer_due : Holdings → List ℕ → List Case
offer_due h f = (not (sound h), 28) ∷ (refusals f ++ take_cases (as_collector h) (piece_of f))

-- of a release
unfoldable pub release_due : Holdings → ℕ → ℕ → List Case
release_due h l v = (not (sound h), 28) ∷ (not (place_of l v (as_collector h).places).held, 18) ∷ []

-- of a copy, for n bytes lent
unfoldable pub copy_due : Holdings → ℕ → ℕ → ℕ → List Case
copy_due h l v n = (not (sound h), 28) ∷ copy_cases (place_of l v (as_collector h).places) n

-- an offer
unfoldable pub offer_gives : Holdings → List ℕ → Outcome
offer_gives h f = cond (tops_clear h) (from_offered (offered (as_collector h) f)) (bad_record h)

-- a release
unfoldable pub release_gives : Holdings → ℕ → ℕ → Outcome
release_gives h l v = cond (tops_clear h) (from_offered (released (as_collector h) l v)) (bad_record h)

-- a copy's answer, for n bytes lent
unfoldable pub copy_gives : Holdings → ℕ → ℕ → ℕ → Copied
copy_gives h l v n = cond (tops_clear h) (answered (as_collector h) l v n) (record { answer = 28; length = 0 })

-- what it leaves in what is lent
unfoldable pub copy_leaves : Holdings → ℕ → ℕ → List ℕ → List ℕ
copy_leaves h l v out = cond (tops_clear h) (copied (as_collector h) l v out) out
