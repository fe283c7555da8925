use mathlib.Core.Path.{refl, ap}
use native.Mathlib.Omega.{arith}
use lib.ListN.{length}
use Rattle.join.proofs.Cuts.{onward_next, onward_end, onward_ten}
use Rattle.join.proofs.lent.count.Goals as goal

pub loop-i-init : goal.loop-i-init
loop-i-init c = (omega arith, omega arith, refl, omega arith)

pub returns-then-m-eq10 : goal.returns-then-m-eq10
returns-then-m-eq10 c = let v = c.loop-i.invariant in
    let e = ap length (onward_ten c.args.packets.now c.loop-i.m c.loop-i.i c.if-m-eq10.true) in
    omega (arith, v.0, c.if-m-eq10.true)

pub next-i-requires : goal.next-i-requires
next-i-requires c = omega (arith, c.loop-i.invariant.2)

pub overflow_add-m : goal.overflow_add-m
overflow_add-m c = omega (arith, c.loop-i.invariant.3)

pub loop-i-smaller : goal.loop-i-smaller
loop-i-smaller c = omega (arith, c.next-i.ensures.1, c.next-i.ensures.2, c.loop-i.invariant.2)

pub loop-i-preserved : goal.loop-i-preserved
loop-i-preserved c = let v = c.loop-i.invariant in
    let e = ap length (onward_next c.args.packets.now c.loop-i.m c.loop-i.i c.next-i.result (omega (arith, c.if-m-eq10.false, v.3)) (omega (arith, v.2)) c.next-i.ensures.0) in
    (omega (arith, e, v.0), omega (arith, c.next-i.ensures.2, v.2), v.2, omega (arith, c.if-m-eq10.false, v.3))

pub returns : goal.returns
returns c = let v = c.loop-i.invariant in
    let e = ap length (onward_end c.args.packets.now c.loop-i.m c.loop-i.i (omega (arith, v.2))) in
    omega (arith, e, v.0)
