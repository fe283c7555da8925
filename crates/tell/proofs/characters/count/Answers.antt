use native.Mathlib.Omega.{arith}
use Rattle.tell.proofs.Stepping.{step_at, parts_fits, parts_over, parts_done}
use Rattle.tell.proofs.characters.count.Goals as goal

pub overflow_add-i : goal.overflow_add-i
overflow_add-i c = let v = c.loop-i.invariant in
    let s = step_at _ c.loop-i.i _ (omega (arith, v.2)) c.width-w.ensures in
    omega (arith, s.within)

pub loop-i-smaller-then-w-left : goal.loop-i-smaller-then-w-left
loop-i-smaller-then-w-left c = let v = c.loop-i.invariant in
    let s = step_at _ c.loop-i.i _ (omega (arith, v.2)) c.width-w.ensures in
    omega (arith, s.within, s.some, v.2)

pub loop-i-preserved-then-w-left : goal.loop-i-preserved-then-w-left
loop-i-preserved-then-w-left c = let v = c.loop-i.invariant in
    let s = step_at _ c.loop-i.i _ (omega (arith, v.2)) c.width-w.ensures in
    let e = parts_fits c.args.room c.loop-i.left _ c.loop-i.i _ s c.if-w-left.true in
    (omega (arith, e, v.0), omega (arith, s.within, v.2), v.2, omega (arith, s.some, v.3), omega (arith, v.4))

pub overflow_sub-left-else-w-left : goal.overflow_sub-left-else-w-left
overflow_sub-left-else-w-left c = let v = c.loop-i.invariant in
    let s = step_at _ c.loop-i.i _ (omega (arith, v.2)) c.width-w.ensures in
    omega (arith, s.most, c.requires)

pub overflow_add-i-else-w-left : goal.overflow_add-i-else-w-left
overflow_add-i-else-w-left c = let v = c.loop-i.invariant in
    let s = step_at _ c.loop-i.i _ (omega (arith, v.2)) c.width-w.ensures in
    omega (arith, s.within)

pub loop-i-preserved : goal.loop-i-preserved
loop-i-preserved c = let v = c.loop-i.invariant in
    let s = step_at _ c.loop-i.i _ (omega (arith, v.2)) c.width-w.ensures in
    let e = parts_over c.args.room c.loop-i.left _ c.loop-i.i _ s (omega (arith, c.if-w-left.false)) in
    (omega (arith, e, v.0), omega (arith, s.within, v.2), v.2, omega (arith, s.some, v.3), omega arith)

pub returns : goal.returns
returns c = let v = c.loop-i.invariant in
    let e = parts_done c.args.room c.loop-i.left c.args.text.now c.loop-i.i (omega (arith, v.2)) in
    omega (arith, e, v.0)
