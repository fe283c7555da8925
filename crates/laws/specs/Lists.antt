-- Lists one behind the other, and whether two lists are the same. No rule of a paper stands here.
use Rattle.std.specs.Prelude.{List, [], ◌∷◌, ◌++◌, Bool, ℕ}
use Rattle.std.specs.Str.{bytes_eq}

-- lists one behind the other
unfoldable pub together : {A : Type 0} → List (List A) → List A
together [] = []
together (l ∷ ls) = l ++ together ls

-- the same numbers
abbrev pub same : List ℕ → List ℕ → Bool
same = bytes_eq
