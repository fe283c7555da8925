use native.Mathlib.Omega.{arith}
use Rattle.receiver.proofs.Onward.{here, go_on, to_last}
use Rattle.receiver.proofs.Marked.{all_clear}
use Rattle.receiver.proofs.places.open_from.Goals as goal

pub loop-p-init : goal.loop-p-init
loop-p-init c = here _ _ _ _ c.requires.2

pub marked-m-requires : goal.marked-m-requires
marked-m-requires c = omega (arith, c.requires.0.padded, c.requires.1, c.loop-p-test.true)

pub overflow_sub-q : goal.overflow_sub-q
overflow_sub-q c = c.marked-m.ensures.least

pub overflow_cast-q : goal.overflow_cast-q
overflow_cast-q c = omega (arith, c.marked-m.ensures.most)

pub overflow_add-q : goal.overflow_add-q
overflow_add-q c = omega (arith, c.marked-m.ensures.most, c.requires.0.short, c.requires.1, c.loop-p-test.true)

pub returns-then-last-q : goal.returns-then-last-q
returns-then-last-q c = to_last c.requires.0 c.requires.1 c.loop-p.invariant _ c.marked-m.ensures.none c.if-last-q.true

pub returns-then-m-ne0 : goal.returns-then-m-ne0
returns-then-m-ne0 c = go_on c.requires.0 c.requires.1 c.loop-p.invariant _ c.marked-m.ensures.none (omega (arith, c.if-last-q.false))

pub overflow_add-p : goal.overflow_add-p
overflow_add-p c = omega (arith, c.requires.0.short, c.requires.1, c.loop-p-test.true)

pub returns-then-last-p : goal.returns-then-last-p
returns-then-last-p c = to_last c.requires.0 c.requires.1 c.loop-p.invariant 39 (all_clear c.marked-m.ensures c.if-m-ne0.false) c.if-last-p.true

pub overflow_add-p-in-loop-p : goal.overflow_add-p-in-loop-p
overflow_add-p-in-loop-p c = omega (arith, c.requires.0.short, c.requires.1, c.if-last-p.false)

pub loop-p-smaller : goal.loop-p-smaller
loop-p-smaller c = omega (arith, c.loop-p-test.true)

pub loop-p-preserved : goal.loop-p-preserved
loop-p-preserved c = go_on c.requires.0 c.requires.1 c.loop-p.invariant 39 (all_clear c.marked-m.ensures c.if-m-ne0.false) (omega (arith, c.if-last-p.false))

pub returns : goal.returns
returns c = c.loop-p.invariant
