-- `writer::content::put_body`: what its goals need. Assumes nothing.
use mathlib.Core.Path.{◌≡◌, sym, ap, ap₂, ◌∙◌, subst}
use mathlib.Core.Bool.{false}
use mathlib.Core.List.{List}
use Prim.Native.Nat.{ℕ, ◌*◌}
use native.Mathlib.Omega.{arith}
use lib.ListN.{length}
use borrow.Author.Tests.{le-ltb}
use Rattle.format.specs.Format.{size}
use Rattle.packet.specs.Content.{kind_for}
use Rattle.packet.specs.Reading.{has_entries}
use Rattle.packet.specs.Writing.{row_for}
use Rattle.packet.proofs.Good.{good}
use Rattle.packet.proofs.Spans.{stands}
use Rattle.writer.specs.Puts.{After}
use Rattle.writer.specs.Parts.{body_bits}
use Rattle.writer.proofs.Contents.{octets_body, entries_body}
use Rattle.writer.proofs.Shapes.{can_put_rows, have_put_rows}
use Rattle.writer.proofs.Parted.{told}
use Rattle.writer.proofs.content.put_body.Goals as goal

pub put_rows-requires : goal.put_rows-requires
put_rows-requires c = let x = c.args in
    let h = c.requires in
    let t = told (kind_for x.c) h.0 in
    let g = good (kind_for x.c) in
    let w = (stands (kind_for x.c) h.0).rows in (
      can_put_rows x.s.each (row_for x.c).each w x.k x.s.each.numbers x.body.now x.p (sym t.each_numbers) (omega (arith, t.each_numbers, g.entry)) (omega (arith, g.row)) (omega (arith, h.1, h.2.few)) (h.2.numbers ∙ ap₂ (λ (m n : ℕ). m * n) (sym h.1) (sym t.each_numbers)) (omega (arith, h.1, h.2.few, h.3)),
      ap size w.lines ∙ sym t.each_bits,
    )

pub put_octets-requires : goal.put_octets-requires
put_octets-requires c = let x = c.args in
    let h = c.requires in
    let n : has_entries (kind_for x.c) ≡ false = sym (told (kind_for x.c) h.0).each_lines ∙ le-ltb 1 x.s.each.m c.if-s-gt1.false in
    ((octets_body x.c x.body.now h.2 n).2, omega (arith, h.3))

pub returns-then-s-gt1 : goal.returns-then-s-gt1
returns-then-s-gt1 c = let x = c.args in
    let h = c.requires in
    entries_body x.c x.out.now c.put_rows.new.out x.body.now x.k x.p c.put_rows.result h.2 h.1 (have_put_rows x.s.each (row_for x.c).each (stands (kind_for x.c) h.0).rows x.out.now c.put_rows.new.out x.body.now x.k x.p c.put_rows.result c.put_rows.ensures)

pub returns-else-s-gt1 : goal.returns-else-s-gt1
returns-else-s-gt1 c = let x = c.args in
    let h = c.requires in
    let n : has_entries (kind_for x.c) ≡ false = sym (told (kind_for x.c) h.0).each_lines ∙ le-ltb 1 x.s.each.m c.if-s-gt1.false in
    let o = octets_body x.c x.body.now h.2 n in
    subst (λ (s : ℕ). After x.out.now c.put_octets.new.out x.p (body_bits x.c x.body.now) c.put_octets.result s) o.1
    (subst (λ (v : List ℕ). After x.out.now c.put_octets.new.out x.p v c.put_octets.result (8 * length x.body.now)) o.0 c.put_octets.ensures)
