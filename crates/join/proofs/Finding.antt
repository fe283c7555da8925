-- The parts as they are found, one place at a time. Assumes nothing.
use mathlib.Core.Path.{◌≡◌, refl, ap, ◌∙◌}
use mathlib.Core.List.{List, [], ◌∷◌}
use Prim.Native.Nat.{ℕ, suc, ◌+◌, ◌-◌, ◌≤◌, ◌<◌}
use native.Mathlib.Omega.{arith}
use Rattle.story.specs.Telling.{head_of}
use Rattle.story.specs.Joining.{with_head, found}

found_suc : (n : ℕ) (bs : List (List ℕ)) (k m : ℕ) → found n bs k (suc m) ≡ with_head (head_of (k + 1) n) bs ∷ found n bs (k + 1) m
unfolding found
found_suc n bs k m = refl

found_zero : (n : ℕ) (bs : List (List ℕ)) (k : ℕ) → found n bs k 0 ≡ []
unfolding found
found_zero n bs k = refl

pub found_next : (n : ℕ) (bs : List (List ℕ)) (k : ℕ) → k < n → found n bs k (n - k) ≡ with_head (head_of (k + 1) n) bs ∷ found n bs (k + 1) (n - (k + 1))
found_next n bs k h = let z : n - k ≡ suc (n - (k + 1)) = omega arith in ap (found n bs k) z ∙ found_suc n bs k (n - (k + 1))

pub found_end : (n : ℕ) (bs : List (List ℕ)) (k : ℕ) → n ≤ k → found n bs k (n - k) ≡ []
found_end n bs k h = let z : n - k ≡ 0 = omega arith in ap (found n bs k) z ∙ found_zero n bs k

pub found_first : (n : ℕ) (bs : List (List ℕ)) → found n bs 0 n ≡ found n bs 0 (n - 0)
found_first n bs = let z : n ≡ n - 0 = omega arith in ap (found n bs 0) z
