-- `reader::parts::count`: what its goals need. Assumes nothing.
use mathlib.Core.Path.{◌≡◌, ap, ◌∙◌}
use native.Mathlib.Omega.{arith}
use Rattle.reader.proofs.Whole as whole
use Rattle.packet.specs.declared.RowLines.{RowLines}
use Rattle.packet.specs.declared.Kind.{Kind}
use Rattle.packet.specs.Table.{row_of}
use Rattle.packet.proofs.Spans.{stands}
use Prim.Native.Nat.{ℕ, ◌+◌, ◌*◌}
use Rattle.packet.specs.InCode.{row_at}
use Rattle.reader.proofs.parts.count.Goals as goal

-- the counting of a row in code
counted : (f : Kind) (r : RowLines) → r ≡ row_at f → r.counting ≡ (row_of f).counting
counted f r e = (stands f e).same

pub overflow_mul-at : goal.overflow_mul-at
overflow_mul-at c = omega (arith, c.codes_count.ensures.1)

pub overflow_add-at : goal.overflow_add-at
overflow_add-at c = omega (arith, c.codes_count.ensures.1)

pub overflow_add-at-2 : goal.overflow_add-at-2
overflow_add-at-2 c = omega (arith, c.codes_count.ensures.1, (whole.sizes c.kind-f.result c.sizes_of.result c.sizes_of.ensures).lead_most)

pub count_at-requires : goal.count_at-requires
count_at-requires c = omega (arith, c.codes_count.ensures.1, (whole.sizes c.kind-f.result c.sizes_of.result c.sizes_of.ensures).lead_most)

pub returns : goal.returns
returns c = c.count_at.ensures
    ∙ whole.count_is c.args.b.now c.kind-f.result _ c.codes_count.result c.content_size.result _ c.kind-f.ensures c.codes_count.ensures.0 c.content_size.ensures (counted c.kind-f.result c.row_of.result c.row_of.ensures) (ap (λ (x : ℕ). 16 + 96 * c.codes_count.result + x) (whole.sizes c.kind-f.result c.sizes_of.result c.sizes_of.ensures).lead)
