-- What the shelf's functions answer and leave (paper 02, K6).
use Rattle.std.specs.Prelude.{Result, Bool, cond, not, ◌&&◌, List, [], ◌∷◌, ◌++◌, ℕ, ◌%◌, length, drop, eqb, leb, ltb}
use Rattle.laws.specs.Below.{below}
use Rattle.laws.specs.Refusals.{Case, first}
use Rattle.refusal.specs.declared.Refusal.{Refusal}
use Rattle.refusal.specs.Refusal.{answer_of, value_or}
use Rattle.frame.specs.Heading.{reserved}
use Rattle.air.specs.OnAir.{sized}
use Rattle.print.specs.Records.{record_line}
use Rattle.shelf.specs.Record.{level_in, version_in, packet_in, type_in, right, record_of}
use Rattle.shelf.specs.Summary.{record_at, records_in, summary_of, noted}

-- whole records, and 4,096 of them at most
unfoldable pub whole : List ℕ → Bool
whole shelf = eqb (length shelf % 256) 0 && leb (records_in shelf) 4096

-- as long as a record, and as a summary
abbrev pub fits : List ℕ → Bool
fits l = eqb (length l) 256

-- each record keeps the rules
unfoldable pub all_right : List ℕ → Bool
all_right shelf = below (records_in shelf) (λ i. right (record_at shelf i))

-- ---- a shelf by itself: 34, 35
unfoldable pub shelf_cases : List ℕ → List Case
shelf_cases shelf = (not (whole shelf), 34) ∷ (not (all_right shelf), 35) ∷ []

unfoldable pub shelf_answer : List ℕ → ℕ
shelf_answer shelf = first (shelf_cases shelf)

-- ---- adding: 34, 35, 36, in this order
unfoldable pub add_cases : List ℕ → List ℕ → List ℕ → List Case
add_cases shelf given summary =
    (not (whole shelf && (fits given && fits summary)), 34)
    ∷ (not (all_right shelf && right given), 35)
    ∷ (eqb (records_in shelf) 4096, 36)
    ∷ []

unfoldable pub add_answer : List ℕ → List ℕ → List ℕ → ℕ
add_answer shelf given summary = first (add_cases shelf given summary)

-- the entry of the record's type, rewritten; a refusal writes nothing
unfoldable pub added : List ℕ → List ℕ → List ℕ → List ℕ
added shelf given summary =
    cond (eqb (add_answer shelf given summary) 0) (noted summary (type_in given) (records_in shelf)) summary

-- ---- a summary made afresh: 34, 35
unfoldable pub summary_cases : List ℕ → List ℕ → List Case
summary_cases shelf summary = (not (whole shelf && fits summary), 34) ∷ (not (all_right shelf), 35) ∷ []

unfoldable pub summary_answer : List ℕ → List ℕ → ℕ
summary_answer shelf summary = first (summary_cases shelf summary)

unfoldable pub summarized : List ℕ → List ℕ → List ℕ
summarized shelf summary = cond (eqb (summary_answer shelf summary) 0) (summary_of shelf (records_in shelf)) summary

-- ---- a record of a whole packet: the on-air writer's 20, 13 and 27, then 34
unfoldable pub make_cases : ℕ → ℕ → List ℕ → List ℕ → List Case
make_cases level version packet out =
    (not (sized packet), 20) ∷ (reserved level, 13) ∷ (ltb 31 version, 27) ∷ (not (fits out), 34) ∷ []

unfoldable pub make_answer : ℕ → ℕ → List ℕ → List ℕ → ℕ
make_answer level version packet out = first (make_cases level version packet out)

unfoldable pub made : ℕ → ℕ → List ℕ → List ℕ → List ℕ
made level version packet out =
    cond (eqb (make_answer level version packet out) 0) (record_of level version packet) out

-- ---- a record's line: 34, 35, then 10 where the output is shorter than the line
unfoldable pub line_in : List ℕ → List ℕ
line_in given = record_line (level_in given) (version_in given) (packet_in given)

unfoldable pub line_cases : List ℕ → List ℕ → List Case
line_cases given out = (not (fits given), 34) ∷ (not (right given), 35) ∷ (ltb (length out) (length (line_in given)), 10) ∷ []

unfoldable pub line_answer : List ℕ → List ℕ → ℕ
line_answer given out = first (line_cases given out)

-- a number given back and how many bytes were written
pub record Written : Type 0 where
  pub answer : ℕ
  pub length : ℕ

-- the two that a result tells: beside a refusal nothing was written
abbrev pub told : Result ℕ Refusal → Written
told r = record { answer = answer_of r; length = value_or 0 r }

-- the line's length beside 0, and 0 beside a refusal
unfoldable pub lined : List ℕ → List ℕ → Written
lined given out =
    record { answer = line_answer given out; length = cond (eqb (line_answer given out) 0) (length (line_in given)) 0 }

-- the line from the output's first byte, the rest as it was
unfoldable pub line_output : List ℕ → List ℕ → List ℕ
line_output given out = cond (eqb (line_answer given out) 0) (line_in given ++ drop (length (line_in given)) out) out
