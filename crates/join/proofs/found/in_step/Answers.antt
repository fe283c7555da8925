-- `join::found::in_step`: what its goals need. Assumes nothing.
use Rattle.join.proofs.Stepping.{steps_first, steps_next, steps_stop, steps_end}
use Rattle.story.specs.Joining.{lent, digits_of, is_after}
use borrow.Author.Tests.{not-true, not-false}
use Prim.Native.Nat.{ℕ}
use native.Mathlib.Omega.{arith}
use mathlib.Core.List.{List}
use mathlib.Core.Path.{sym, ap, ◌∙◌}
use borrow.Author.Rules.{rules}
use mathlib.Core.Bool.{not}
use Rattle.join.proofs.found.in_step.Goals as goal

pub digits_at-first-requires : goal.digits_at-first-requires
digits_at-first-requires c = c.requires.1.parts 0 (omega (arith, c.requires.0))

pub loop-k-init : goal.loop-k-init
loop-k-init c = let x = c.args in
    steps_first x.n (lent x.packets.now) c.digits_at-first.result c.requires.0 (c.digits_at-first.ensures ∙ ap digits_of (c.requires.1.placed 0 (omega (arith, c.requires.0))))

pub offset_bounds-at-k : goal.offset_bounds-at-k
offset_bounds-at-k c = omega (arith, c.requires.1.few)

pub bounds-at-k : goal.bounds-at-k
bounds-at-k c = search (rules, c.requires.1.few, c.well_formed)

pub digits_at-requires : goal.digits_at-requires
digits_at-requires c = c.requires.1.parts c.loop-k.k (omega arith)

pub is_after-requires : goal.is_after-requires
is_after-requires c = omega (arith, c.requires.1.few)

pub returns-then-not-is_after : goal.returns-then-not-is_after
returns-then-not-is_after c = let v = c.loop-k.invariant in
    let x = c.args in
    let ds = c.digits_at-first.result in
    let k = c.loop-k.k in
    let e = c.digits_at.ensures ∙ ap digits_of (c.requires.1.placed k (omega arith)) in
    sym (v ∙ steps_stop x.n (lent x.packets.now) ds k (omega arith) (ap (λ (d : List ℕ). is_after d ds k) (sym e) ∙ sym c.is_after.ensures ∙ not-true _ (ap not c.if-not-is_after.true)))

pub loop-k-preserved : goal.loop-k-preserved
loop-k-preserved c = let v = c.loop-k.invariant in
    let x = c.args in
    let ds = c.digits_at-first.result in
    let k = c.loop-k.k in
    let e = c.digits_at.ensures ∙ ap digits_of (c.requires.1.placed k (omega arith)) in
    v ∙ steps_next x.n (lent x.packets.now) ds k (omega arith) (ap (λ (d : List ℕ). is_after d ds k) (sym e) ∙ sym c.is_after.ensures ∙ not-false _ (ap not c.if-not-is_after.false))

pub returns : goal.returns
returns c = let x = c.args in
    sym (c.loop-k.invariant ∙ steps_end x.n (lent x.packets.now) c.digits_at-first.result c.loop-k.k (omega arith))
