-- Loops over a list that test every element or look for the first: a turn, the stop, the end. Assumes nothing.
use mathlib.Core.Path.{◌≡◌}
use mathlib.Core.List.{List}
use mathlib.Core.Bool.{Bool, true, false}
use Prim.Native.Nat.{ℕ, ◌+◌, ◌<◌}
use native.Mathlib.Numerals.{add-one}
use lib.ListN.{length, get_or, drop}
use lib.Seq.{drop-cons, drop-length}
use Rattle.laws.specs.Scan.{all, index_of}

module _ {A : Type 0} (f : A → Bool) (xs : List A) (d : A) where
  -- what a turn of a loop over xs knows: the element at i passed, or did not
  pub all_next : (i : ℕ) → i < length xs → f (get_or xs i d) ≡ true → all f (drop i xs) ≡ all f (drop (i + 1) xs)
  all_next i h e = rw (drop-cons xs i d, e, add-one)

  pub all_stop : (i : ℕ) → i < length xs → f (get_or xs i d) ≡ false → all f (drop i xs) ≡ false
  all_stop i h e = rw (drop-cons xs i d, e)

  pub index_next : (i : ℕ) → i < length xs → f (get_or xs i d) ≡ false → index_of f (drop i xs) ≡ index_of f (drop (i + 1) xs) + 1
  unfolding index_of
  index_next i h e = rw (add-one i, drop-cons xs i d, e)

  pub index_stop : (i : ℕ) → i < length xs → f (get_or xs i d) ≡ true → index_of f (drop i xs) ≡ 0
  unfolding index_of
  index_stop i h e = rw (drop-cons xs i d, e)

module _ {A : Type 0} (f : A → Bool) (xs : List A) where
  pub all_end : (i : ℕ) → i ≡ length xs → all f (drop i xs) ≡ true
  all_end i e = rw (e, drop-length)

  pub index_end : (i : ℕ) → i ≡ length xs → index_of f (drop i xs) ≡ 0
  unfolding index_of
  index_end i e = rw (e, drop-length)
