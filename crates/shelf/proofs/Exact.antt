-- Each number is answered exactly when its case holds and none before it does, 0 exactly when none holds, no other number comes, and a refusal writes nothing. Assumes nothing.
use mathlib.Core.Path.{◌≡◌, refl}
use mathlib.Core.Logic.{◌↔◌, ◌⊎◌}
use mathlib.Core.Bool.{true}
use mathlib.Core.List.{List}
use Prim.Native.Nat.{ℕ, ◌<◌}
use lib.ListN.{length, take}
use borrow.Author.Tests.{ne_eqb}
use Rattle.laws.specs.Refusals.{Case, first, none, among, apart, case_at}
use Rattle.laws.proofs.Refusals.{exact, done, listed}
use Rattle.laws.proofs.Cases.{if_no}
use Rattle.shelf.specs.Shelf.{shelf_cases, shelf_answer, add_cases, add_answer, summary_cases, summary_answer, summarized, make_cases, make_answer, made, line_cases, line_answer, lined, line_output}

-- an answer that follows its cases
abbrev pub Follows : ℕ → List Case → Type 0
Follows answer cases =
    ((answer ≡ 0) ↔ (none cases ≡ true))
    × ((k : ℕ) → k < length cases → (answer ≡ (case_at cases k).1) ↔ (((case_at cases k).0 ≡ true) × (none (take k cases) ≡ true)))
    × ((answer ≡ 0) ⊎ (among answer cases ≡ true))

follows : (cases : List Case) → apart cases ≡ true → Follows (first cases) cases
follows cases a = (done cases a, exact cases a, listed cases)

shelf_apart : (s : List ℕ) → apart (shelf_cases s) ≡ true
unfolding apart among shelf_cases
shelf_apart s = refl

pub judge_exact : (s : List ℕ) → Follows (shelf_answer s) (shelf_cases s)
unfolding shelf_answer
judge_exact s = follows (shelf_cases s) (shelf_apart s)

add_apart : (s r m : List ℕ) → apart (add_cases s r m) ≡ true
unfolding apart among add_cases
add_apart s r m = refl

pub add_exact : (s r m : List ℕ) → Follows (add_answer s r m) (add_cases s r m)
unfolding add_answer
add_exact s r m = follows (add_cases s r m) (add_apart s r m)

summary_apart : (s m : List ℕ) → apart (summary_cases s m) ≡ true
unfolding apart among summary_cases
summary_apart s m = refl

pub summary_exact : (s m : List ℕ) → Follows (summary_answer s m) (summary_cases s m)
unfolding summary_answer
summary_exact s m = follows (summary_cases s m) (summary_apart s m)

make_apart : (l v : ℕ) (p o : List ℕ) → apart (make_cases l v p o) ≡ true
unfolding apart among make_cases
make_apart l v p o = refl

pub make_exact : (l v : ℕ) (p o : List ℕ) → Follows (make_answer l v p o) (make_cases l v p o)
unfolding make_answer
make_exact l v p o = follows (make_cases l v p o) (make_apart l v p o)

line_apart : (r o : List ℕ) → apart (line_cases r o) ≡ true
unfolding apart among line_cases
line_apart r o = refl

pub line_exact : (r o : List ℕ) → Follows (line_answer r o) (line_cases r o)
unfolding line_answer
line_exact r o = follows (line_cases r o) (line_apart r o)

-- ---- what a refusal leaves
pub summary_refused_unchanged : (s m : List ℕ) → (summary_answer s m ≡ 0 → ⊥) → summarized s m ≡ m
unfolding summarized
summary_refused_unchanged s m h = if_no _ _ (ne_eqb (summary_answer s m) 0 h)

pub make_refused_unchanged : (l v : ℕ) (p o : List ℕ) → (make_answer l v p o ≡ 0 → ⊥) → made l v p o ≡ o
unfolding made
make_refused_unchanged l v p o h = if_no _ _ (ne_eqb (make_answer l v p o) 0 h)

pub line_refused_unchanged : (r o : List ℕ) → (line_answer r o ≡ 0 → ⊥) → ((lined r o).length ≡ 0) × (line_output r o ≡ o)
unfolding lined line_output
line_refused_unchanged r o h = let e = ne_eqb (line_answer r o) 0 h in (if_no _ _ e, if_no _ _ e)
