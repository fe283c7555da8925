-- A test of every element of a list, and the place of the first element that passes a test. No rule of a paper stands here.
use Rattle.std.specs.Prelude.{List, [], ◌∷◌, Bool, cond, ℕ, ◌+◌}
use Rattle.std.specs.List.{list_all}

module _ {A : Type 0} where
  -- every element passes
  abbrev pub all : (A → Bool) → List A → Bool
  all = list_all

  -- the index of the first that passes, or the length where none does
  unfoldable pub index_of : (A → Bool) → List A → ℕ
  index_of f [] = 0
  index_of f (x ∷ xs) = cond (f x) 0 (index_of f xs + 1)
