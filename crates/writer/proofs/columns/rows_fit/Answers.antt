-- `writer::columns::rows_fit`: what its goals need. Assumes nothing.
use mathlib.Core.Path.{◌≡◌, sym, ap, ◌∙◌}
use Prim.Native.Nat.{ℕ, ◌+◌}
use native.Mathlib.Omega.{arith}
use Rattle.laws.proofs.Cases.{and_yes, and_no}
use Rattle.format.specs.Format.{octets, own}
use Rattle.packet.specs.InCode.{lines_in}
use Rattle.packet.proofs.Loops as laws
use Rattle.writer.proofs.ByColumn.{left, left_first, left_turn, left_last, a_column}
use Rattle.writer.proofs.columns.rows_fit.Goals as goal

pub loop-j-init : goal.loop-j-init
loop-j-init c = let a = c.args in
    let h = c.requires in
    (omega (arith, h.each), left_first a.a (lines_in a.ts) a.n a.ts.numbers a.xs.now h.each h.numbers)

pub overflow_add-ts : goal.overflow_add-ts
overflow_add-ts c = omega (arith, c.requires.few.1, laws.every_few)

pub fits-requires : goal.fits-requires
fits-requires c = let a = c.args in
    let k = c.loop-j in
    a_column a.ts a.n a.ts.numbers a.xs.now 0 c.requires k.i k.j c.line_at-line.result (omega arith) c.line_at-line.ensures k.invariant.0

pub returns-then-not-fits : goal.returns-then-not-fits
returns-then-not-fits c = let a = c.args in
    let k = c.loop-j in
    let t = c.line_at-line.result in
    let u = laws.turn_at a.ts.from a.ts.m k.j t c.requires.few.1 (omega arith) c.line_at-line.ensures in
    sym (k.invariant.1 ∙ left_turn a.a (lines_in a.ts) a.n a.ts.numbers a.xs.now k.i k.j (octets 0) t u.inside u.same ∙ and_no _ (sym c.fits.ensures ∙ c.if-not-fits.true))

pub overflow_add-i : goal.overflow_add-i
overflow_add-i c = let a = c.args in
    let k = c.loop-j in
    let d = a_column a.ts a.n a.ts.numbers a.xs.now 0 c.requires k.i k.j c.line_at-line.result (omega arith) c.line_at-line.ensures k.invariant.0 in
    omega (arith, d.inside, d.narrow, c.taken-i.ensures)

pub loop-j-preserved : goal.loop-j-preserved
loop-j-preserved c = let a = c.args in
    let k = c.loop-j in
    let T = lines_in a.ts in
    let t = c.line_at-line.result in
    let u = laws.turn_at a.ts.from a.ts.m k.j t c.requires.few.1 (omega arith) c.line_at-line.ensures in
    let x = laws.need_turn T k.j (octets 0) t u.inside u.same k.i a.ts.numbers k.invariant.0 in
    let o : k.i + own t ≡ k.i + c.taken-i.result = omega (arith, c.taken-i.ensures) in
    (omega (arith, x, c.taken-i.ensures), k.invariant.1 ∙ left_turn a.a T a.n a.ts.numbers a.xs.now k.i k.j (octets 0) t u.inside u.same ∙ and_yes _ (sym c.fits.ensures ∙ c.if-not-fits.false) ∙ ap (λ (y : ℕ). left a.a T a.n a.ts.numbers a.xs.now y (k.j + 1)) o)

pub returns : goal.returns
returns c = let a = c.args in
    let k = c.loop-j in
    sym (k.invariant.1 ∙ left_last a.a (lines_in a.ts) a.n a.ts.numbers a.xs.now k.i k.j (laws.lines_end a.ts.from a.ts.m k.j c.requires.few.1 (omega arith)))
