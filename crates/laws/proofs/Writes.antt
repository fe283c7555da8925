-- Lists written over lists, part after part. Assumes nothing.
use mathlib.Core.Path.{◌≡◌, sym, ap, ◌∙◌}
use mathlib.Core.List.{List, [], ◌∷◌, ◌++◌}
use Prim.Native.Nat.{ℕ, suc, ◌+◌, ◌<◌, ◌≤◌}
use native.Mathlib.Nat.{add-zero}
use native.Mathlib.Numerals.{add-one}
use native.Mathlib.Omega.{arith}
use lib.ListN.{length, get_or, set, drop, drop_of_length-le}
use lib.Seq.{sets, sets-eq, drop-cons}

module _ {A : Type 0} where
  pub sets_append : (xs ys l : List A) (i : ℕ) → sets l i (xs ++ ys) ≡ sets (sets l i xs) (i + length xs) ys
  sets_append [] ys l i = ap (λ (k : ℕ). sets l k ys) (sym (add-zero i))
  sets_append (x ∷ xs) ys l i =
      let e : suc i + length xs ≡ i + suc (length xs) = omega arith in
      sets_append xs ys (set l i x) (suc i) ∙ ap (λ (k : ℕ). sets (sets (set l i x) (suc i) xs) k ys) e

  -- one write after another
  pub join : (z a b : List A) (v w : List A) (i j : ℕ) → a ≡ sets z i v → b ≡ sets a j w → j ≡ i + length v → b ≡ sets z i (v ++ w)
  join z a b v w i j e f g = f ∙ rw (e, g) (sym (sets_append v w z i))

  -- from the front
  pub from_front : (v l : List A) → length v ≤ length l → sets l 0 v ≡ v ++ drop (length v) l
  from_front v l h = let e : 0 + length v ≡ length v = omega arith in sets-eq v l 0 (omega arith) ∙ ap (λ (n : ℕ). v ++ drop n l) e

  -- a loop that puts the elements of L one by one: a turn, and the end
  pub put_turn : (d : A) (L o o'' all : List A) (p j : ℕ) (x : A) → j < length L → all ≡ sets o (p + j) (drop j L) → o'' ≡ set o (p + j) x → x ≡ get_or L j d → all ≡ sets o'' (p + (j + 1)) (drop (j + 1) L)
  put_turn d L o o'' all p j x h e f g =
      let i : p + (j + 1) ≡ suc (p + j) = omega arith in
      e ∙ rw (drop-cons L j d h, i, add-one, f, g)

  pub put_done : (L o all : List A) (i j : ℕ) → length L ≤ j → all ≡ sets o i (drop j L) → o ≡ all
  put_done L o all i j h e = sym (e ∙ rw (drop_of_length-le L h))
