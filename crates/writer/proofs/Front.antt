-- Six numbers begin with those of a content. Assumes nothing.
use mathlib.Core.Path.{◌≡◌, refl, ap, ◌∙◌}
use mathlib.Core.List.{List}
use Prim.Native.Nat.{ℕ, ◌≤◌}
use lib.ListN.{length, take, drop, replicate}
use lib.Seq.{length-sets, take_at}
use Rattle.packet.specs.Reading.{zeros, padded}
use Rattle.laws.proofs.Writes.{from_front}

-- six numbers are enough for any content
pub six_long : (xs : List ℕ) → length (padded 6 xs) ≡ 6
unfolding zeros
six_long xs = length-sets (replicate 6 0) 0 xs

pub six_first : (xs : List ℕ) → length xs ≤ 6 → take (length xs) (padded 6 xs) ≡ xs
unfolding zeros
six_first xs h = ap (take (length xs)) (from_front xs (replicate 6 0) h) ∙ take_at xs (drop (length xs) (replicate 6 0)) (length xs) refl
