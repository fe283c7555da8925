-- `writer::content::put_back`: what its goals need. Assumes nothing.
use mathlib.Core.Path.{sym, ap, ◌∙◌}
use Prim.Native.Nat.{◌≤◌}
use native.Mathlib.Omega.{arith}
use Rattle.format.specs.Format.{size}
use Rattle.packet.specs.Content.{kind_for}
use Rattle.packet.proofs.Good.{good}
use Rattle.packet.proofs.Spans.{stands}
use Rattle.writer.proofs.Parted.{told, back_none, back_rows, back_put}
use borrow.Author.Rules.{rules}
use Rattle.writer.proofs.content.put_back.Goals as goal

pub returns-then-s-eq0 : goal.returns-then-s-eq0
returns-then-s-eq0 c = let a = c.args in back_none a.c a.s c.requires.0 a.digits.now a.out.now a.p c.if-s-eq0.true

pub slice_bounds-put_rows-end : goal.slice_bounds-put_rows-end
slice_bounds-put_rows-end c = let a = c.args in
    let n : a.s.after.numbers ≤ 35 = omega (arith, (told (kind_for a.c) c.requires.0).last_numbers, (good (kind_for a.c)).last) in
    search (rules, n)

pub put_rows-requires : goal.put_rows-requires
put_rows-requires c = let a = c.args in
    let h = c.requires in
    (back_rows a.c a.s h.0 a.digits.now a.p h.2 h.1, ap size (stands (kind_for a.c) h.0).last.lines ∙ sym (told (kind_for a.c) h.0).last_bits)

pub returns : goal.returns
returns c = let a = c.args in
    back_put a.c a.s c.requires.0 a.digits.now a.out.now c.put_rows.new.out a.p c.put_rows.result c.put_rows.ensures
