-- Other last four digits in a message number. Assumes nothing.
use mathlib.Core.Path.{◌≡◌, ap, ◌∙◌}
use mathlib.Core.List.{List, [], ◌++◌, append-nil}
use Prim.Native.Nat.{ℕ, ◌+◌}
use native.Mathlib.Omega.{arith}
use lib.ListN.{length, take, drop, drop_of_length-le}
use lib.Seq.{sets, sets-eq}
use Rattle.story.specs.Telling.{four_of}

pub last_four_set : (ds : List ℕ) (x : ℕ) → length ds ≡ 35 → sets ds 31 (four_of x) ≡ take 31 ds ++ four_of x
last_four_set ds x n =
    let z : drop (31 + length (four_of x)) ds ≡ [] = drop_of_length-le ds {i = 35} (omega arith) in
    sets-eq (four_of x) ds 31 (omega arith)
    ∙ ap (λ (l : List ℕ). (take 31 ds ++ four_of x) ++ l) z
    ∙ append-nil (take 31 ds ++ four_of x)
