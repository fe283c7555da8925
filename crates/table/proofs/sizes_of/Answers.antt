-- `table::sizes_of`: what its goals need. Assumes nothing.
use mathlib.Core.Path.{sym, ap, ap₂, ◌∙◌}
use Prim.Native.Nat.{◌+◌}
use native.Mathlib.Omega.{arith}
use Rattle.packet.specs.declared.RowLines.{RowLines}
use Rattle.packet.specs.Table.{row_of}
use Rattle.packet.specs.Reading.{count_size}
use Rattle.packet.specs.InCode.{row_at}
use Rattle.packet.proofs.Good.{good}
use Rattle.packet.proofs.Column.{lead_is, sizes_are}
use Rattle.table.proofs.sizes_of.Goals as goal

pub overflow_add-result : goal.overflow_add-result
unfolding row_at
overflow_add-result c = let f = c.args.f in
    let e = c.row_of-s.ensures in
    let a = ap (λ (r : RowLines). r.before.bits) e in
    let k = c.count_bits.ensures ∙ ap (λ (r : RowLines). count_size r.counting) e in
    omega (arith, a, k, lead_is (row_of f), (good f).lead)

pub returns : goal.returns
unfolding row_at
returns c = let f = c.args.f in
    let e = c.row_of-s.ensures in
    sizes_are f _ _ _ _ _ _
    (ap₂ ◌+◌ (ap (λ (r : RowLines). r.before.bits) e) (c.count_bits.ensures ∙ ap (λ (r : RowLines). count_size r.counting) e) ∙ sym (lead_is (row_of f)))
    (ap (λ (r : RowLines). r.each.bits) e) (ap (λ (r : RowLines). r.after.bits) e)
    (ap (λ (r : RowLines). r.before.numbers) e) (ap (λ (r : RowLines). r.each.numbers) e) (ap (λ (r : RowLines). r.after.numbers) e)
