-- `reader::columns::take_own`: what its goals need. Assumes nothing.
use mathlib.Core.Path.{◌≡◌, refl, sym, ap, subst, ◌∙◌}
use mathlib.Core.Bool.{Bool}
use mathlib.Core.List.{List}
use Prim.Native.Nat.{ℕ, ◌+◌}
use native.Mathlib.Omega.{arith}
use native.Mathlib.Nat.{add-zero}
use lib.ListN.{take, drop}
use lib.Seq.{sets, take_all}
use borrow.Author.Tests.{eqb-true}
use Rattle.laws.specs.Bits.{bits}
use Rattle.laws.proofs.Elements.{all_at}
use Rattle.format.specs.declared.Line.{Line}
use Rattle.format.specs.Format.{octets, size, need}
use Rattle.format.proofs.Sound.{sound_is}
use Rattle.packet.specs.Columns.{single}
use Rattle.packet.specs.InCode.{every_line}
use Rattle.packet.specs.Reading.{numbers_at}
use Rattle.packet.proofs.Loops as laws
use Rattle.reader.specs.Due.{asks, passing, Judged}
use Rattle.reader.proofs.Due.{going_first, asks_at, lines_turn, lines_last}
use Rattle.reader.proofs.Taking.{own_few, taken_turn, taken_end}
use Rattle.reader.proofs.ByColumns.{size_more, need_more}
use Rattle.reader.proofs.columns.take_own.Goals as goal

pub loop-j-init : goal.loop-j-init
unfolding size need
loop-j-init c = (sym (add-zero _), refl, omega arith, omega arith, refl, going_first _)

pub overflow_add-from : goal.overflow_add-from
overflow_add-from c = omega (arith, c.requires.there, laws.every_few)

pub take_number-good-requires : goal.take_number-good-requires
take_number-good-requires c = let a = c.args in
    let pre = c.requires in
    let k = c.loop-j in
    let t = c.line_at-t.result in
    let u = laws.turn_at a.from a.m k.j t pre.there (omega arith) c.line_at-t.ensures in
    (eqb-true t.count 1 (ap single u.same ∙ all_at single (take a.m (drop a.from every_line)) k.j (octets 0) pre.ones u.inside), (sound_is t u.good).narrow, omega (arith, k.invariant.2, pre.few, pre.place))

pub line_due-requires : goal.line_due-requires
line_due-requires c = ap asks c.line_at-t.ensures ∙ asks_at _

pub width-place-requires : goal.width-place-requires
width-place-requires c = let a = c.args in
    (laws.turn_at a.from a.m c.loop-j.j c.line_at-t.result c.requires.there (omega arith) c.line_at-t.ensures).good

pub overflow_add-numbers : goal.overflow_add-numbers
overflow_add-numbers c = let a = c.args in
    let t = c.line_at-t.result in
    let u = laws.turn_at a.from a.m c.loop-j.j t c.requires.there (omega arith) c.line_at-t.ensures in
    omega (arith, c.own-numbers.ensures, own_few t u.good, c.loop-j.invariant.3, c.requires.few)

pub loop-j-preserved : goal.loop-j-preserved
loop-j-preserved c = let a = c.args in
    let pre = c.requires in
    let k = c.loop-j in
    let t = c.line_at-t.result in
    let T = take a.m (drop a.from every_line) in
    let u = laws.turn_at a.from a.m k.j t pre.there (omega arith) c.line_at-t.ensures in
    let w = c.width-place.ensures in
    let n = c.own-numbers.ensures in
    let l = c.take_number-good.ensures in
    let o = c.take_number-good.new.out in
    let z = subst (λ (x : Bool). Judged (passing t x) c.line_due.result) l.1 c.line_due.ensures in (
      omega (arith, k.invariant.0, size_more T k.j (octets 0) t u.inside u.same, w.0),
      omega (arith, k.invariant.1, need_more T k.j (octets 0) t u.inside u.same, n),
      omega (arith, k.invariant.2, w.1),
      omega (arith, k.invariant.3, n, own_few t u.good),
      taken_turn T k.j (octets 0) t u.inside u.same a.b.now k.out o (sets a.out.now 0 (numbers_at T a.b.now a.p)) k.place k.numbers (k.numbers + c.own-numbers.result) k.invariant.4 l.0 (ap (λ (x : ℕ). k.numbers + x) n) ∙ rw w.0,
      lines_turn T k.j (octets 0) t u.inside u.same (bits a.b.now) a.p k.place c.width-place.result w.0 k.due c.line_due.result c.min-due.result k.invariant.5 z c.min-due.ensures,
    )

pub returns : goal.returns
returns c = let a = c.args in
    let k = c.loop-j in
    let T = take a.m (drop a.from every_line) in
    let h = laws.lines_end a.from a.m k.j c.requires.there (omega arith) in
    let z : take k.j T ≡ T = take_all k.j T h in (
      taken_end T k.j a.b.now k.out _ k.place k.numbers h k.invariant.4,
      lines_last T k.j h (bits a.b.now) a.p k.place k.due k.invariant.5,
      k.invariant.0 ∙ ap (λ (ts : List Line). a.p + size ts) z,
      k.invariant.1 ∙ ap need z,
    )
