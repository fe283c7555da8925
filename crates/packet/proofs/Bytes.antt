-- The bytes of a content, by its row: no fewer than its count, and few where the count is small. Assumes nothing.
use mathlib.Core.Path.{◌≡◌, sym, ◌∙◌}
use mathlib.Core.Bool.{true, ◌||◌}
use Prim.Native.Nat.{ℕ, ◌+◌, ◌*◌, ◌/◌, ◌≤◌}
use native.Mathlib.Nat.{mul-le-mul_left, zero-mul}
use native.Mathlib.Omega.{arith}
use lib.Dec.{leb}
use borrow.Author.Tests.{leb-true}
use Rattle.format.specs.Format.{size}
use Rattle.packet.specs.declared.Kind.{Kind}
use Rattle.packet.specs.declared.Counting.{Counting}
use Rattle.packet.specs.declared.Counting.TheVariants as counting
use Rattle.packet.specs.Table.{content_bytes, row_of, count_by}
use Rattle.packet.specs.Reading.{part_at}
use Rattle.packet.proofs.Column.{content_size_lem, column}
use Rattle.packet.proofs.Good.{none_by, good}

-- eight times the bytes are the bits of the three parts
pub eightfold : (f : Kind) (n : ℕ) → 8 * content_bytes f n ≡ part_at (row_of f) + n * size (row_of f).each + size (row_of f).after
eightfold f n = sym (column f n) ∙ content_size_lem (row_of f) n

pub bytes_are : (f : Kind) (n l e r : ℕ) → l ≡ part_at (row_of f) → e ≡ size (row_of f).each → r ≡ size (row_of f).after → (l + n * e + r) / 8 ≡ content_bytes f n
bytes_are f n l e r p q s =
    let z : l + n * e + r ≡ 8 * content_bytes f n = rw (p, q, s) (sym (eightfold f n)) in
    omega arith

least_by : (s : Counting) (e k m : ℕ) → (none_by s || leb 8 e) ≡ true → count_by s k m * 8 ≤ count_by s k m * e
least_by counting.Fixed e k m h = omega (arith, zero-mul e)
least_by counting.Counted e k m h = mul-le-mul_left k (leb-true 8 e h)
least_by counting.Raw e k m h = mul-le-mul_left m (leb-true 8 e h)
least_by counting.Unknown e k m h = omega (arith, zero-mul e)

-- the bytes before what is repeated, and one for each time it stands
pub part_least : (f : Kind) (k m : ℕ) → part_at (row_of f) / 8 + count_by (row_of f).counting k m ≤ content_bytes f (count_by (row_of f).counting k m)
part_least f k m =
    omega (arith, eightfold f (count_by (row_of f).counting k m), least_by (row_of f).counting (size (row_of f).each) k m (good f).least)

pub bytes_least : (f : Kind) (k m : ℕ) → count_by (row_of f).counting k m ≤ content_bytes f (count_by (row_of f).counting k m)
bytes_least f k m = omega (arith, part_least f k m)

pub bytes_most : (f : Kind) (n : ℕ) → n ≤ 2000 → content_bytes f n ≤ 10032
bytes_most f n h =
    omega (arith, eightfold f n, mul-le-mul_left n (good f).row, (good f).lead, (good f).rest)
