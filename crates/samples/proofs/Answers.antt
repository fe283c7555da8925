-- Each refusal of a symbol exactly in its case, and what it leaves as it was. Assumes nothing.
use mathlib.Core.Path.{◌≡◌, refl, sym, ap, ap₂}
use mathlib.Core.Logic.{◌↔◌, ◌⊎◌}
use mathlib.Core.Bool.{Bool, true, false, cond}
use mathlib.Core.List.{List}
use Prim.Native.Nat.{ℕ, ◌<◌}
use lib.Dec.{eqb, eqb→eq}
use lib.ListN.{length, take}
use lib.Ieee.{Float}
use Rattle.laws.specs.Refusals.{none, among, apart, case_at}
use Rattle.laws.proofs.Refusals.{exact, done, listed}
use Rattle.std.specs.Prelude.{Result, Ok, Err}
use Rattle.refusal.specs.declared.Refusal.{Refusal}
use Rattle.refusal.proofs.Numbers.{some_number, same_number}
use Rattle.samples.specs.declared.Pair.{Pair}
use Rattle.samples.specs.declared.Decided.{Decided as Given}
use Rattle.samples.specs.Symbol.{Decided, told, refusal, taken, decide_cases, decide_answer, decided}
use Rattle.samples.specs.declared.Pair.{Pair}
use Rattle.samples.proofs.Steps.{holds, is_refused}

pub answer_is : (s : Pair) (xs : List Float) → (decided s xs).answer ≡ decide_answer s xs
unfolding decided
answer_is s xs = by (eqb (decide_answer s xs) 0) refl
  where
    by : (t : Bool) → eqb (decide_answer s xs) 0 ≡ t → (cond t (taken s xs) (refusal (decide_answer s xs) s)).answer ≡ decide_answer s xs
    by true e = sym (eqb→eq (decide_answer s xs) 0 (holds e))
    by false e = refl

cases_apart : (s : Pair) (xs : List Float) → apart (decide_cases s xs) ≡ true
unfolding decide_cases apart among
cases_apart s xs = refl

-- 28, 37 and 38 come exactly when their case holds and none before it does, 0 exactly when none holds, and no other number comes.
pub decide_exact : (s : Pair) (xs : List Float)
    → ((k : ℕ) → k < length (decide_cases s xs) → ((decided s xs).answer ≡ (case_at (decide_cases s xs) k).1) ↔ (((case_at (decide_cases s xs) k).0 ≡ true) × (none (take k (decide_cases s xs)) ≡ true)))
    × (((decided s xs).answer ≡ 0) ↔ (none (decide_cases s xs) ≡ true))
    × (((decided s xs).answer ≡ 0) ⊎ (among (decided s xs).answer (decide_cases s xs) ≡ true))
unfolding decide_answer
decide_exact s xs = rw (answer_is s xs) (exact (decide_cases s xs) (cases_apart s xs), done (decide_cases s xs) (cases_apart s xs), listed (decide_cases s xs))

-- Refused, the state stays and the verdict is undecided with plus zero.
pub decide_refused : (s : Pair) (xs : List Float) → ((decided s xs).answer ≡ 0 → ⊥) → decided s xs ≡ refusal (decided s xs).answer s
decide_refused s xs h = sym (is_refused s xs (decided s xs).answer (answer_is s xs) h)

-- what is told of a result tells the result
pub told_apart : (s : Pair) (r t : Result Given Refusal) → told s r ≡ told s t → r ≡ t
told_apart s (Ok d) (Ok e) h = ap₂ {C = Result Given Refusal} (λ v p. Ok (record { verdict = v; state = p })) (ap (λ (x : Decided). x.verdict) h) (ap (λ (x : Decided). x.state) h)
told_apart s (Ok d) (Err e) h = absurd (some_number e (sym (ap (λ (x : Decided). x.answer) h)))
told_apart s (Err d) (Ok e) h = absurd (some_number d (ap (λ (x : Decided). x.answer) h))
told_apart s (Err d) (Err e) h = ap {B = Result Given Refusal} (λ x. Err x) (same_number d e (ap (λ (x : Decided). x.answer) h))
