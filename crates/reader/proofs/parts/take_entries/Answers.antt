-- `reader::parts::take_entries`: what its goals need. Assumes nothing.
use mathlib.Core.Path.{◌≡◌, sym, ap, ◌∙◌}
use native.Mathlib.Omega.{arith}
use mathlib.Core.List.{[]}
use Prim.Native.Nat.{ℕ, ◌+◌, ◌*◌, ◌/◌}
use lib.ListN.{length}
use lib.Seq.{sets}
use borrow.Author.Tests.{lt-ltb, le-ltb}
use Rattle.laws.specs.Bits.{bits}
use Rattle.laws.proofs.Cases.{if_yes, if_no}
use Rattle.laws.proofs.Strips.{row_below, length_strips}
use Rattle.format.specs.Format.{times, size, need}
use Rattle.packet.specs.InCode.{lines_in}
use Rattle.packet.specs.Reading.{numbers_at}
use Rattle.reader.proofs.Due.{rows_plain}
use Rattle.reader.proofs.ByColumns as columns
use Rattle.reader.proofs.parts.take_entries.Goals as goal

pub take_rows-requires : goal.take_rows-requires
take_rows-requires c = let a = c.args in
    let pre = c.requires in
    let T = lines_in a.each in
    let e : a.each.bits / 8 * 8 ≡ size T = omega (arith, pre.bits, columns.ends T 0 pre.fits) in
    record {
      few = pre.few;
      fits = pre.fits;
      start = pre.start;
      wide = omega (arith, pre.numbers);
      inside = λ n h. rw e (omega (arith, pre.inside, row_below n a.k (size T) h));
      room = λ n h. rw pre.numbers (omega (arith, pre.room (lt-ltb 1 a.each.m c.if-each-gt1.true), row_below n a.k (need T) h));
      near = rw e (omega (arith, pre.inside, pre.short));
      low = rw pre.numbers (omega (arith, pre.low));
    }

pub shape_of-out : goal.shape_of-out
shape_of-out c = let a = c.args in ap length c.take_rows.ensures.0 ∙ length_strips a.k (λ (n : ℕ). numbers_at (lines_in a.each) a.b.now (a.p + n * (a.each.bits / 8 * 8))) a.out.now 0 a.each.numbers

pub returns-then-each-gt1 : goal.returns-then-each-gt1
returns-then-each-gt1 c = let a = c.args in
    let pre = c.requires in
    let T = lines_in a.each in
    let e : a.each.bits / 8 * 8 ≡ size T = omega (arith, pre.bits, columns.ends T 0 pre.fits) in
    let l = c.take_rows.ensures in
    (columns.rows_taken T a.b.now a.out.now _ a.p a.each.numbers a.k (a.each.bits / 8 * 8) e pre.numbers l.0 ∙ ap (sets a.out.now 0) (sym (if_yes (numbers_at (times a.k T) a.b.now a.p) [] (lt-ltb 1 a.each.m c.if-each-gt1.true))), columns.rows_due T (bits a.b.now) a.p a.k (a.each.bits / 8 * 8) c.take_rows.result e l.1)

pub returns-else-each-gt1 : goal.returns-else-each-gt1
returns-else-each-gt1 c = let a = c.args in
    let f = le-ltb 1 a.each.m c.if-each-gt1.false in
    (ap (sets a.out.now 0) (sym (if_no (numbers_at (times a.k (lines_in a.each)) a.b.now a.p) [] f)), rows_plain a.k (lines_in a.each) (bits a.b.now) a.p (c.requires.bytes_plain f))
