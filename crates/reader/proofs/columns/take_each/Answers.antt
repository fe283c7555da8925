-- `reader::columns::take_each`: what its goals need. Assumes nothing.
use mathlib.Core.Path.{◌≡◌, refl, ◌∙◌}
use mathlib.Core.Bool.{◌&&◌}
use Prim.Native.Nat.{◌<◌, ◌+◌, ◌*◌}
use native.Mathlib.Nat.{mul-le-mul_right}
use native.Mathlib.Omega.{arith}
use lib.Dec.{leb}
use lib.ListN.{set}
use Rattle.laws.specs.Bits.{at, run, bits}
use Rattle.laws.proofs.Bits.{at_small}
use Rattle.laws.proofs.Cases.{if_yes}
use Rattle.laws.proofs.Strips.{row_below}
use Rattle.format.specs.Format.{inside}
use Rattle.format.proofs.Leaves.{reached, store_more}
use Rattle.reader.proofs.Leaves.{within_yes, within_no, judged_more}
use Rattle.reader.proofs.columns.take_each.Goals.{then-t-x, else-t-x}
use Rattle.reader.proofs.columns.take_each.Goals as goal

pub loop-j-init : goal.loop-j-init
unfolding run inside
loop-j-init c = (refl, refl)

pub overflow_cast-out : goal.overflow_cast-out
overflow_cast-out c = let a = c.args in
    let q = a.p + c.loop-j.j * a.t.width in
    let near : q < 65536 = omega (arith, c.requires.1, c.requires.2, row_below c.loop-j.j a.t.count a.t.width c.loop-j-test.true, mul-le-mul_right a.t.width c.requires.0) in
    let e : c.field-x.result ≡ at (bits a.b.now) q a.t.width = c.field-x.ensures ∙ if_yes _ _ (reached q 1 a.t.width near (omega arith) (omega (arith, c.requires.1))) in
    omega (arith, e, at_small a.b.now q a.t.width 8 c.requires.1)

pub loop-j-preserved : goal.loop-j-preserved
loop-j-preserved c = let a = c.args in
    let k = c.loop-j in
    let t = a.t in
    let l = bits a.b.now in
    let x = c.field-x.result in
    let q = a.p + k.j * t.width in
    let near : q < 65536 = omega (arith, c.requires.1, c.requires.2, row_below k.j t.count t.width c.loop-j-test.true, mul-le-mul_right t.width c.requires.0) in
    let e : x ≡ at l q t.width = c.field-x.ensures ∙ if_yes _ _ (reached q 1 t.width near (omega arith) (omega (arith, c.requires.1))) in
    let h : c.if-t-x.good ≡ (leb t.lo x && leb x t.hi) = elim c.if-t-x.branch [ then-t-x w ↦ within_yes _ t.lo x t.hi w.if-t-x.true w.good-is | else-t-x w ↦ within_no _ t.lo x t.hi w.if-t-x.false w.good-is ] in (
      store_more l a.out.now k.out (set k.out (a.i + k.j) x) a.i a.p k.j t.width x k.invariant.0 refl e,
      judged_more l k.good c.if-t-x.good t.lo t.hi a.p k.j t.width x e k.invariant.1 h,
    )
