-- `writer::content::put_beside`: what its goals need. Assumes nothing.
use mathlib.Core.Path.{refl, sym, ap, ◌∙◌}
use Prim.Native.Nat.{◌-◌, ◌≤◌}
use native.Mathlib.Omega.{arith}
use Rattle.format.specs.Format.{size}
use Rattle.packet.specs.Content.{kind_for}
use Rattle.packet.proofs.Loops.{every_few}
use Rattle.packet.proofs.Spans.{parted}
use Rattle.writer.proofs.Parted.{beside_count, beside_listed, beside_rows, beside_put}
use borrow.Author.Rules.{rules}
use Rattle.writer.proofs.content.put_beside.Goals as goal

pub overflow_sub-numbers : goal.overflow_sub-numbers
overflow_sub-numbers c = let a = c.args in (beside_count a.c a.l a.s c.requires.0).0

pub overflow_add-rest : goal.overflow_add-rest
overflow_add-rest c = let a = c.args in
    let p = parted (kind_for a.c) c.requires.0.row in
    omega (arith, p.some, p.few.1, every_few)

pub overflow_sub-rest : goal.overflow_sub-rest
overflow_sub-rest c = let a = c.args in (parted (kind_for a.c) c.requires.0.row).some

pub slice_bounds-put_rows-end : goal.slice_bounds-put_rows-end
slice_bounds-put_rows-end c = let a = c.args in
    let n : a.s.before.numbers - a.l.n ≤ 35 = (beside_count a.c a.l a.s c.requires.0).2 in
    search (rules, n, c.requires.3)

pub put_rows-requires : goal.put_rows-requires
put_rows-requires c = let a = c.args in
    let h = c.requires in
    let w = a.s.before.numbers - a.l.n in
    (beside_rows a.c a.l a.s h.0 a.digits.now a.p w a.bits h.3 refl h.2, ap size (beside_listed a.c a.l a.s h.0 a.bits w).lines ∙ sym h.1)

pub returns : goal.returns
returns c = let a = c.args in
    let h = c.requires in
    let w = a.s.before.numbers - a.l.n in
    let o = c.put_rows.new.out in
    let r = c.put_rows.result in
    beside_put a.c a.l a.s h.0 a.digits.now a.out.now o a.p w a.bits r refl c.put_rows.ensures
