-- What the last arm of a long `match` knows: the number is none of the arms' before it. Assumes nothing.
use mathlib.Core.Path.{◌≡◌}
use Prim.Native.Nat.{ℕ, zero, suc, ◌≤◌}
use native.Mathlib.Decide.{dec_lt}
use native.Mathlib.Omega.{arith}

-- a number is none of those below n
unfoldable pub Apart : ℕ → ℕ → Type 0
Apart zero k = Unit
Apart (suc n) k = Apart n k × (k ≡ n → ⊥)

pub not_below : (n k : ℕ) → Apart n k → n ≤ k
unfolding Apart
not_below zero k a = omega arith
not_below (suc n) k a = elim (dec_lt n k) [
  | yes l ↦ l
  | no l ↦ let h = not_below n k a.0 in let e : k ≡ n = omega arith in absurd (a.1 e)
]
