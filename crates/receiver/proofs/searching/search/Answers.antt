use mathlib.Core.Path.{refl, sym, ◌∙◌}
use native.Mathlib.Omega.{arith}
use Rattle.receiver.proofs.Onward.{begin, room, count_room, stored_on, passed_on, over}
use Rattle.receiver.proofs.searching.search.Goals as goal

pub loop-from-init : goal.loop-from-init
loop-from-init c = begin _ _ _ _ _ _ c.requires.2 c.requires.1

pub overflow_add-from : goal.overflow_add-from
overflow_add-from c = omega (arith, c.loop-from.invariant.inside, c.requires.0.short)

pub taken_at-requires : goal.taken_at-requires
taken_at-requires c = (c.requires.0, c.loop-from-test.true)

pub overflow_mul-frames : goal.overflow_mul-frames
overflow_mul-frames c = omega (arith, c.loop-from.invariant.few, c.loop-from.invariant.inside, c.requires.0.short)

pub store-requires : goal.store-requires
store-requires c = room c.requires.0 c.loop-from.invariant c.loop-from-test.true c.requires.3

pub bounds-counts-frames : goal.bounds-counts-frames
bounds-counts-frames c = count_room c.requires.0 c.loop-from.invariant c.loop-from-test.true c.requires.4

pub overflow_add-frames : goal.overflow_add-frames
overflow_add-frames c = omega (arith, c.loop-from.invariant.few, c.loop-from.invariant.inside, c.requires.0.short)

pub overflow_add-from-in-Some : goal.overflow_add-from-in-Some
overflow_add-from-in-Some c = omega (arith, c.loop-from-test.true, c.requires.0.short)

pub loop-from-smaller-in-Some : goal.loop-from-smaller-in-Some
loop-from-smaller-in-Some c = omega (arith, c.loop-from-test.true)

pub loop-from-preserved-in-Some : goal.loop-from-preserved-in-Some
loop-from-preserved-in-Some c = let t = c.in-Some.ensures in
    stored_on c.requires.0 c.loop-from.invariant c.loop-from-test.true (sym t.same) _ refl _ c.store.new.out _ _ (t.words refl) c.store.ensures (t.count refl) refl

pub overflow_add-from-in-None : goal.overflow_add-from-in-None
overflow_add-from-in-None c = omega (arith, c.loop-from-test.true, c.requires.0.short)

pub overflow_sub-end : goal.overflow_sub-end
overflow_sub-end c = omega (arith, c.loop-from-test.true)

pub open_from-from-requires : goal.open_from-from-requires
open_from-from-requires c = (c.requires.0, omega (arith, c.loop-from-test.true), omega (arith, c.loop-from-test.true))

pub loop-from-smaller : goal.loop-from-smaller
loop-from-smaller c = omega (arith, c.loop-from-test.true, c.open_from-from.ensures.later, c.open_from-from.ensures.inside)

pub loop-from-preserved : goal.loop-from-preserved
loop-from-preserved c = passed_on c.requires.0 c.loop-from.invariant c.loop-from-test.true (sym c.in-None.ensures.same) _ refl c.open_from-from.ensures

pub shape_of-out : goal.shape_of-out
shape_of-out c = c.loop-from.invariant.same

pub shape_of-counts : goal.shape_of-counts
shape_of-counts c = c.loop-from.invariant.same_counts

pub returns : goal.returns
returns c = let all = over c.requires.0 c.loop-from.invariant (omega (arith, c.loop-from-test.false)) in record { state = all.0; out = all.1.0; counts = all.1.1 }
