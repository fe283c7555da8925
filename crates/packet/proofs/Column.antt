-- The bits of a content, part by part, and that they are the bytes of paper 01's column. Assumes nothing.
use mathlib.Core.Path.{◌≡◌, refl, ap, ◌∙◌}
use mathlib.Core.List.{◌++◌}
use Prim.Native.Nat.{ℕ, ◌+◌, ◌*◌}
use native.Mathlib.Omega.{arith}
use Rattle.format.specs.Format.{times, size, need}
use Rattle.format.proofs.Tables.{size_append, size_times}
use Rattle.packet.specs.declared.Counting.{Counting}
use Rattle.packet.specs.declared.Counting.TheVariants as counting
use Rattle.packet.specs.declared.Kind.{Kind}
use Rattle.packet.specs.declared.Kind.TheVariants as kind
use Rattle.packet.specs.Table.{content_bytes, Row, row_of, count_line, content_lines}
use Rattle.packet.specs.Reading.{count_size, part_at, sizes_of}

pub count_size_lem : (s : Counting) (k : ℕ) → size (count_line s k) ≡ count_size s
unfolding size
count_size_lem counting.Fixed k = refl
count_size_lem counting.Counted k = refl
count_size_lem counting.Raw k = refl
count_size_lem counting.Unknown k = refl

pub content_size_lem : (r : Row) (k : ℕ) → size (content_lines r k) ≡ part_at r + k * size r.each + size r.after
unfolding content_lines part_at
content_size_lem r k =
    let L = count_line r.counting k in
    omega (arith, size_append r.before (L ++ (times k r.each ++ r.after)), size_append L (times k r.each ++ r.after), size_append (times k r.each) r.after, size_times k r.each, count_size_lem r.counting k, count_size_lem r.counting 0)

-- The lines of a content whose row stands k times have as many bits as the column of paper 01's table says in bytes. The reader's 26 and the writer's size
-- are said by the column; what is read and written goes by the lines.
pub column : (f : Kind) (k : ℕ) → size (content_lines (row_of f) k) ≡ 8 * content_bytes f k
unfolding size part_at
column kind.Frequencies k = content_size_lem (row_of kind.Frequencies) k ∙ omega arith
column kind.Address k = content_size_lem (row_of kind.Address) k ∙ omega arith
column kind.Keep k = content_size_lem (row_of kind.Keep) k ∙ omega arith
column kind.Clock k = content_size_lem (row_of kind.Clock) k ∙ omega arith
column kind.Reset k = content_size_lem (row_of kind.Reset) k ∙ omega arith
column kind.Factory k = content_size_lem (row_of kind.Factory) k ∙ omega arith
column kind.Drill k = content_size_lem (row_of kind.Drill) k ∙ omega arith
column kind.Text k = content_size_lem (row_of kind.Text) k ∙ omega arith
column kind.Hold k = content_size_lem (row_of kind.Hold) k ∙ omega arith
column kind.Raw k = content_size_lem (row_of kind.Raw) k ∙ omega arith
column kind.Unknown k = content_size_lem (row_of kind.Unknown) k ∙ omega arith

-- a row's first lines and its count
pub lead_is : (r : Row) → part_at r ≡ size r.before + count_size r.counting
unfolding part_at
lead_is r = ap (λ (n : ℕ). size r.before + n) (count_size_lem r.counting 0)

pub sizes_are : (f : Kind) (l e r a b c : ℕ) → l ≡ part_at (row_of f) → e ≡ size (row_of f).each → r ≡ size (row_of f).after → a ≡ need (row_of f).before → b ≡ need (row_of f).each → c ≡ need (row_of f).after
    → record { lead = l; each = e; rest = r; first = a; row = b; last = c } ≡ sizes_of f
sizes_are f l e r a b c p q s t u v = rw (p, q, s, t, u, v)
