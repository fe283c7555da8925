-- The answers of reader and writer come exactly in their cases, and 0 exactly when none holds. Assumes nothing.
use mathlib.Core.Path.{◌≡◌, refl, sym, ◌∙◌}
use mathlib.Core.Logic.{◌↔◌}
use mathlib.Core.Bool.{true}
use mathlib.Core.List.{List}
use Prim.Native.Nat.{ℕ, ◌≤◌, ◌<◌}
use lib.ListN.{length, take, drop}
use borrow.Author.Tests.{lt-ltb, le-ltb}
use Rattle.laws.specs.Refusals.{none, among, apart, case_at, first}
use Rattle.laws.proofs.Refusals.{exact, done, pass, stop}
use Rattle.sister.specs.declared.Command.{Command}
use Rattle.sister.specs.Reading.{read_cases, read_answer}
use Rattle.sister.specs.Writing.{write_cases, written_answer}

-- fewer than three bytes: 26, whatever they are
pub read_short : (b : List ℕ) → length b < 3 → read_answer b ≡ 26
unfolding read_answer
read_short b h = stop _ _ (lt-ltb _ _ h)

behind_apart : (b : List ℕ) → apart (drop 1 (read_cases b)) ≡ true
unfolding apart among
behind_apart b = refl

behind : (b : List ℕ) → 3 ≤ length b → first (drop 1 (read_cases b)) ≡ read_answer b
unfolding read_answer
behind b h = sym (pass _ _ (le-ltb _ _ h))

-- three and more: place k of the rest of the list, 39, 26, 24, 25, 27
pub read_exact : (b : List ℕ) (k : ℕ) → 3 ≤ length b → k < 5
    → (read_answer b ≡ (case_at (drop 1 (read_cases b)) k).1) ↔ (((case_at (drop 1 (read_cases b)) k).0 ≡ true) × (none (take k (drop 1 (read_cases b))) ≡ true))
read_exact b k h l =
    let e = exact (drop 1 (read_cases b)) (behind_apart b) k l in
    (λ a. e.0 (behind b h ∙ a), λ a. sym (behind b h) ∙ e.1 a)

pub read_done : (b : List ℕ) → 3 ≤ length b → (read_answer b ≡ 0) ↔ (none (drop 1 (read_cases b)) ≡ true)
read_done b h =
    let e = done (drop 1 (read_cases b)) (behind_apart b) in
    (λ a. e.0 (behind b h ∙ a), λ a. sym (behind b h) ∙ e.1 a)

write_apart : (c : Command) (address codes : List ℕ) (room : ℕ) → apart (write_cases c address codes room) ≡ true
unfolding apart among
write_apart c address codes room = refl

-- place k of the writer's list, 39, 26, 25, 27, 10
pub write_exact : (c : Command) (address codes : List ℕ) (room k : ℕ) → k < 5
    → (written_answer c address codes room ≡ (case_at (write_cases c address codes room) k).1) ↔ (((case_at (write_cases c address codes room) k).0 ≡ true) × (none (take k (write_cases c address codes room)) ≡ true))
unfolding written_answer
write_exact c address codes room = exact (write_cases c address codes room) (write_apart c address codes room)

pub write_done : (c : Command) (address codes : List ℕ) (room : ℕ) → (written_answer c address codes room ≡ 0) ↔ (none (write_cases c address codes room) ≡ true)
unfolding written_answer
write_done c address codes room = done (write_cases c address codes room) (write_apart c address codes room)
