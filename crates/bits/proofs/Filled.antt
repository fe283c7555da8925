-- An array of floats that is filled one by one. Assumes nothing.
use Rattle.std.proofs.Common.{◌≡◌, ℕ, ◌+◌, ◌<◌, ◌≤◌, Bool, true, false, not, T, ltb, List, length, get_or, set, sym, ap, ◌∙◌, arith, ltb→lt, nltb→le, get_or-set_other, get_or-set_same}
use lib.Ieee.{Float, nan}

pub more_set : (l : List Float) (k : ℕ) (v : Float) (f : ℕ → Float) → k < length l → v ≡ f k → ((j : ℕ) → j < k → get_or l j nan ≡ f j)
    → (j : ℕ) → j < k + 1 → get_or (set l k v) j nan ≡ f j
more_set l k v f h e p j q = go (ltb j k) (ltb→lt j k) (nltb→le j k)
  where
    same : j ≡ k → get_or (set l k v) j nan ≡ f j
    same w = ap (λ (x : ℕ). get_or (set l k v) x nan) w ∙ get_or-set_same l k v nan h ∙ e ∙ ap f (sym w)

    go : (b : Bool) → (T b → j < k) → (T (not b) → k ≤ j) → get_or (set l k v) j nan ≡ f j
    go true a b = let x : j < k = a tt in get_or-set_other l k j v nan (omega arith) ∙ p j x
    go false a b = let x : k ≤ j = b tt in same (omega arith)
