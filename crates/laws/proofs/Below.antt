-- What a test at every number below n shows of each. Assumes nothing.
use mathlib.Core.Bool.{Bool, true, false, true≢false}
use mathlib.Core.Path.{◌≡◌, refl, sym, ◌∙◌, subst}
use Prim.Native.Nat.{ℕ, zero, suc, ◌<◌}
use native.Mathlib.Nat.{not-suc-le-zero}
use native.Mathlib.Decide.{dec_lt}
use native.Mathlib.Omega.{arith}
use Rattle.laws.specs.Below.{below}
use Rattle.laws.proofs.Cases.{and_yes, and_left, and_right}
use Rattle.laws.proofs.Elements.{by_test}

-- what passed below n passed at each k below n
pub at_each : (n : ℕ) (f : ℕ → Bool) → below n f ≡ true → (k : ℕ) → k < n → f k ≡ true
unfolding below
at_each zero f t k h = absurd (not-suc-le-zero h)
at_each (suc n) f t k h =
    elim (dec_lt k n) [
      | yes l ↦ at_each n f (and_right (f n) (below n f) t) k l
      | no l ↦ let e : n ≡ k = omega arith in subst (λ (m : ℕ). f m ≡ true) e (and_left (f n) (below n f) t)
    ]

-- where each passes, all do
pub below_yes : (n : ℕ) (f : ℕ → Bool) → ((k : ℕ) → k < n → f k ≡ true) → below n f ≡ true
unfolding below
below_yes zero f e = refl
below_yes (suc n) f e = and_yes _ (e n (omega arith)) ∙ below_yes n f (λ k h. e k (omega arith))

-- one that fails is enough
pub below_no : (n : ℕ) (f : ℕ → Bool) (k : ℕ) → k < n → f k ≡ false → below n f ≡ false
below_no n f k h e = by_test (below n f) (λ t. absurd (true≢false (sym (at_each n f t k h) ∙ e))) (λ t. t)
