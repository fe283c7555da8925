-- The answers of reader and writer come exactly in their cases: a number exactly when its case holds and none before it does, 0 exactly when
-- none holds, and no other number. Assumes nothing.
use mathlib.Core.Path.{◌≡◌, refl}
use mathlib.Core.Logic.{◌↔◌, ◌⊎◌}
use mathlib.Core.Bool.{Bool, true}
use mathlib.Core.List.{List}
use Prim.Native.Nat.{ℕ, zero, suc, ◌<◌}
use lib.ListN.{take}
use Rattle.laws.specs.Refusals.{none, among, apart, case_at}
use Rattle.laws.proofs.Refusals.{exact, done, listed}
use Rattle.packet.specs.declared.Fields.{Fields}
use Rattle.packet.specs.Reading.{cases_then, read_cases, read_answer, opened_by, opened, text_cases, text_answer}
use Rattle.packet.specs.Writing.{size_for, write_cases, written_answer, written_by, written}

pub then_apart : (b : List ℕ) (x : Bool) → apart (cases_then b x) ≡ true
unfolding apart among
then_apart b x = refl

pub write_apart : (f : Fields) (codes body : List ℕ) (room : ℕ) → apart (write_cases f codes body room) ≡ true
unfolding apart among
write_apart f codes body room = refl

-- the number that `read` gives is the reader's, and the one that `write` gives the writer's
pub read_answer_lem : (b : List ℕ) → (opened b).answer ≡ read_answer b
unfolding opened
read_answer_lem b = go (read_answer b)
  where
    go : (a : ℕ) → (opened_by a b).answer ≡ a
    go zero = refl
    go (suc a) = refl

pub write_answer : (f : Fields) (codes body : List ℕ) (room : ℕ) → (written f codes body room).answer ≡ written_answer f codes body room
unfolding written
write_answer f codes body room = go (written_answer f codes body room)
  where
    go : (a : ℕ) → (written_by a (size_for f body)).answer ≡ a
    go zero = refl
    go (suc a) = refl

-- place k of the reader's list, 20, 23, 26, 24, 25, 27
pub read_exact : (b : List ℕ) (k : ℕ) → k < 6 → (read_answer b ≡ (case_at (read_cases b) k).1) ↔ (((case_at (read_cases b) k).0 ≡ true) × (none (take k (read_cases b)) ≡ true))
unfolding read_answer
read_exact b = exact (read_cases b) (then_apart b _)

pub read_done : (b : List ℕ) → (read_answer b ≡ 0) ↔ (none (read_cases b) ≡ true)
unfolding read_answer
read_done b = done (read_cases b) (then_apart b _)

pub read_listed : (b : List ℕ) → (read_answer b ≡ 0) ⊎ (among (read_answer b) (read_cases b) ≡ true)
unfolding read_answer
read_listed b = listed (read_cases b)

-- the same of the text's number, whose 27 has one case more
pub text_exact : (b : List ℕ) (k : ℕ) → k < 6 → (text_answer b ≡ (case_at (text_cases b) k).1) ↔ (((case_at (text_cases b) k).0 ≡ true) × (none (take k (text_cases b)) ≡ true))
unfolding text_answer
text_exact b = exact (text_cases b) (then_apart b _)

pub text_done : (b : List ℕ) → (text_answer b ≡ 0) ↔ (none (text_cases b) ≡ true)
unfolding text_answer
text_done b = done (text_cases b) (then_apart b _)

-- place k of the writer's list, 23, 26, 25, 27, 20, 10
pub write_exact : (f : Fields) (codes body : List ℕ) (room k : ℕ) → k < 6
    → (written_answer f codes body room ≡ (case_at (write_cases f codes body room) k).1) ↔ (((case_at (write_cases f codes body room) k).0 ≡ true) × (none (take k (write_cases f codes body room)) ≡ true))
unfolding written_answer
write_exact f codes body room = exact (write_cases f codes body room) (write_apart f codes body room)

pub write_done : (f : Fields) (codes body : List ℕ) (room : ℕ) → (written_answer f codes body room ≡ 0) ↔ (none (write_cases f codes body room) ≡ true)
unfolding written_answer
write_done f codes body room = done (write_cases f codes body room) (write_apart f codes body room)

pub write_listed : (f : Fields) (codes body : List ℕ) (room : ℕ) → (written_answer f codes body room ≡ 0) ⊎ (among (written_answer f codes body room) (write_cases f codes body room) ≡ true)
unfolding written_answer
write_listed f codes body room = listed (write_cases f codes body room)
