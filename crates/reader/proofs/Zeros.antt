-- Arrays of zeros and what is written over them, and where what is repeated begins. Assumes nothing.
use mathlib.Core.Path.{◌≡◌, ap, ◌∙◌}
use mathlib.Core.List.{List, [], append-nil}
use Prim.Native.Nat.{ℕ, ◌+◌}
use native.Mathlib.Omega.{arith}
use lib.ListN.{length, drop, replicate, length-replicate, drop_of_length-le}
use lib.Seq.{sets, length-sets}
use Rattle.laws.proofs.Writes.{from_front}
use Rattle.format.specs.Format.{size}
use Rattle.packet.specs.declared.Kind.{Kind}
use Rattle.packet.specs.declared.Counting.{Counting}
use Rattle.packet.specs.Table.{row_of}
use Rattle.packet.specs.Reading.{count_size, part_at, zeros}
use Rattle.packet.proofs.Column.{count_size_lem}

pub lead_is : (f : Kind) (s : Counting) → (row_of f).counting ≡ s → part_at (row_of f) ≡ size (row_of f).before + count_size s
unfolding part_at
lead_is f s e = ap (λ (n : ℕ). size (row_of f).before + n) (count_size_lem (row_of f).counting 0 ∙ ap count_size e)

-- zeros filled to their end
pub full : (m : ℕ) (z o xs : List ℕ) → z ≡ zeros m → o ≡ sets z 0 xs → length xs ≡ m → o ≡ xs
unfolding zeros
full m z o xs e f n =
    let z0 : List ℕ = replicate m 0 in
    let k : length z0 ≡ m = length-replicate m 0 in
    let r : drop (length xs) z0 ≡ [] = drop_of_length-le z0 {i = length xs} (omega arith) in
    f ∙ ap (λ (l : List ℕ). sets l 0 xs) e ∙ from_front xs z0 (omega arith) ∙ rw r (append-nil xs)

-- an array keeps its length
pub kept : (m : ℕ) (z o xs : List ℕ) (i : ℕ) → length z ≡ m → o ≡ sets z i xs → length o ≡ m
kept m z o xs i n e = ap length e ∙ length-sets z i xs ∙ n

pub length_zeros : (m : ℕ) (z : List ℕ) → z ≡ zeros m → length z ≡ m
unfolding zeros
length_zeros m z e = ap length e ∙ length-replicate m 0
