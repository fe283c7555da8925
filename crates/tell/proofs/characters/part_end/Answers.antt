use native.Mathlib.Omega.{arith}
use Rattle.tell.proofs.Stepping.{step_at, first_fits, first_over, first_done}
use Rattle.tell.proofs.characters.part_end.Goals as goal

pub returns-then-left-w : goal.returns-then-left-w
returns-then-left-w c = let v = c.loop-i.invariant in
    let s = step_at _ c.loop-i.i _ (omega (arith, v.2)) c.width-w.ensures in
    let e = first_over c.args.room c.loop-i.left _ c.loop-i.i _ s (omega (arith, c.if-left-w.true)) in
    (omega (arith, e, v.0), omega (arith, v.2))

pub overflow_add-i : goal.overflow_add-i
overflow_add-i c = let v = c.loop-i.invariant in
    let s = step_at _ c.loop-i.i _ (omega (arith, v.2)) c.width-w.ensures in
    omega (arith, s.within)

pub loop-i-smaller : goal.loop-i-smaller
loop-i-smaller c = let v = c.loop-i.invariant in
    let s = step_at _ c.loop-i.i _ (omega (arith, v.2)) c.width-w.ensures in
    omega (arith, s.within, s.some, v.2)

pub loop-i-preserved : goal.loop-i-preserved
loop-i-preserved c = let v = c.loop-i.invariant in
    let s = step_at _ c.loop-i.i _ (omega (arith, v.2)) c.width-w.ensures in
    let e = first_fits c.args.room c.loop-i.left _ c.loop-i.i _ s (omega (arith, c.if-left-w.false)) in
    (omega (arith, e, v.0), omega (arith, s.within, v.2), v.2)

pub returns : goal.returns
returns c = let v = c.loop-i.invariant in
    let e = first_done c.args.room c.loop-i.left c.args.text.now c.loop-i.i (omega (arith, v.2)) in
    (omega (arith, e, v.0), omega (arith, v.2))
