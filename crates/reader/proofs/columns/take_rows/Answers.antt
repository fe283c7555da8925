-- `reader::columns::take_rows`: what its goals need. Assumes nothing.
use mathlib.Core.Path.{◌≡◌, sym, ap, ◌∙◌}
use Prim.Native.Nat.{ℕ, ◌+◌, ◌*◌, ◌/◌}
use native.Mathlib.Omega.{arith}
use native.Mathlib.Nat.{add-zero}
use mathlib.Core.List.{List}
use lib.ListN.{take}
use lib.Seq.{take_all}
use Rattle.format.specs.declared.Line.{Line}
use Rattle.laws.specs.Bits.{bits}
use Rattle.laws.specs.Strips.{strips}
use Rattle.format.specs.Format.{octets, size, need}
use Rattle.packet.specs.InCode.{lines_in}
use Rattle.packet.specs.Reading.{numbers_at}
use Rattle.packet.proofs.Loops as laws
use Rattle.reader.specs.Due.{asks}
use Rattle.reader.proofs.Due.{going_first, asks_at}
use Rattle.reader.proofs.Taking.{own_few}
use Rattle.reader.proofs.ByColumns as columns
use Rattle.reader.proofs.columns.take_rows.Goals as goal

pub loop-j-init : goal.loop-j-init
unfolding size need
loop-j-init c = let a = c.args in
    (sym (add-zero _), sym (add-zero _), omega arith, omega arith, columns.column_first (lines_in a.ts) a.b.now a.out.now a.p a.i a.ts.numbers a.n (a.ts.bits / 8 * 8), going_first _)

pub overflow_add-ts : goal.overflow_add-ts
overflow_add-ts c = omega (arith, c.requires.few.1, laws.every_few)

pub take_column-good-requires : goal.take_column-good-requires
take_column-good-requires c = let a = c.args in
    let pre = c.requires in
    let k = c.loop-j in
    let t = c.line_at-t.result in
    let T = lines_in a.ts in
    let u = laws.turn_at a.ts.from a.ts.m k.j t pre.few.1 (omega arith) c.line_at-t.ensures in
    let more = columns.size_more T k.j (octets 0) t u.inside u.same in
    let also = columns.need_more T k.j (octets 0) t u.inside u.same in
    record {
      good = u.good;
      fits = columns.stands_at T k.j 0 (octets 0) t u.inside u.same pre.fits;
      inside = λ n h. omega (arith, pre.inside n h, k.invariant.0, more, columns.size_within T (k.j + 1));
      room = λ n h. omega (arith, pre.room n h, k.invariant.1, also, columns.need_within T (k.j + 1), k.auto.out);
      near = omega (arith, pre.near, k.invariant.2, pre.few.0);
      low = omega (arith, pre.low, k.invariant.3, pre.few.0);
    }

pub line_due-requires : goal.line_due-requires
line_due-requires c = ap asks c.line_at-t.ensures ∙ asks_at _

pub width-q-requires : goal.width-q-requires
width-q-requires c = let ts = c.args.ts in
    (laws.turn_at ts.from ts.m c.loop-j.j c.line_at-t.result c.requires.few.1 (omega arith) c.line_at-t.ensures).good

pub overflow_add-to : goal.overflow_add-to
overflow_add-to c = let ts = c.args.ts in
    let t = c.line_at-t.result in
    let u = laws.turn_at ts.from ts.m c.loop-j.j t c.requires.few.1 (omega arith) c.line_at-t.ensures in
    omega (arith, c.own-to.ensures, own_few t u.good, c.loop-j.invariant.3, c.requires.few.0, c.requires.low)

pub loop-j-preserved : goal.loop-j-preserved
loop-j-preserved c = let a = c.args in
    let pre = c.requires in
    let k = c.loop-j in
    let t = c.line_at-t.result in
    let T = lines_in a.ts in
    let u = laws.turn_at a.ts.from a.ts.m k.j t pre.few.1 (omega arith) c.line_at-t.ensures in
    let w = c.width-q.ensures in
    let n = c.own-to.ensures in
    let l = c.take_column-good.ensures in
    let o = c.take_column-good.new.out in
    let more = columns.size_more T k.j (octets 0) t u.inside u.same in
    let also = columns.need_more T k.j (octets 0) t u.inside u.same in (
      omega (arith, k.invariant.0, more, w.0),
      omega (arith, k.invariant.1, also, n),
      omega (arith, k.invariant.2, w.1),
      omega (arith, k.invariant.3, n, own_few t u.good),
      columns.column_turn T k.j (octets 0) t u.inside u.same a.b.now a.out.now k.out o a.p k.q a.i k.to a.ts.numbers a.n (a.ts.bits / 8 * 8) k.invariant.0 k.invariant.1 (omega (arith, columns.need_within T (k.j + 1), pre.wide)) k.invariant.4 l.0,
      columns.due_turn T k.j (octets 0) t u.inside u.same (bits a.b.now) a.p k.q c.width-q.result a.n (a.ts.bits / 8 * 8) c.take_column-good.result k.d c.line_due.result c.min-d.result w.0 l.1 k.invariant.5 c.line_due.ensures c.min-d.ensures,
    )

pub returns : goal.returns
returns c = let a = c.args in
    let k = c.loop-j in
    let T = lines_in a.ts in
    let h = laws.lines_end a.ts.from a.ts.m k.j c.requires.few.1 (omega arith) in
    let z : take k.j T ≡ T = take_all k.j T h in
    (k.invariant.4 ∙ ap (λ (ts : List Line). strips a.out.now a.i a.ts.numbers a.n (λ (x : ℕ). numbers_at ts a.b.now (a.p + x * (a.ts.bits / 8 * 8)))) z, columns.due_last T k.j h (bits a.b.now) a.p k.q a.n (a.ts.bits / 8 * 8) k.d k.invariant.5)
