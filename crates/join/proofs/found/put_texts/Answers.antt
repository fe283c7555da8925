-- `join::found::put_texts`: what its goals need. Assumes nothing.
use Rattle.join.proofs.Stepping.{putting_first, putting_room, putting_next, putting_last}
use Rattle.packet.specs.Reading.{body_of}
use Rattle.story.specs.Joining.{lent}
use lib.ListN.{drop}
use native.Mathlib.Omega.{arith}
use mathlib.Core.List.{List}
use Prim.Native.Nat.{ℕ}
use mathlib.Core.Path.{ap, ◌∙◌}
use borrow.Author.Rules.{rules}
use Rattle.join.proofs.found.put_texts.Goals as goal

pub loop-k-init : goal.loop-k-init
loop-k-init c = putting_first c.args.n (lent c.args.packets.now) c.args.out.now

pub offset_bounds-at-k : goal.offset_bounds-at-k
offset_bounds-at-k c = omega (arith, c.requires.0.few)

pub bounds-at-k : goal.bounds-at-k
bounds-at-k c = search (rules, c.requires.0.few, c.well_formed)

pub text_at-t-requires : goal.text_at-t-requires
text_at-t-requires c = c.requires.0.parts c.loop-k.k (omega arith)

pub put_text-requires : goal.put_text-requires
put_text-requires c = let x = c.args in
    let v = c.loop-k.invariant in
    let k = c.loop-k.k in
    let e = c.text_at-t.ensures ∙ ap (λ (l : List ℕ). drop 4 (body_of l)) (c.requires.0.placed k (omega arith)) in
    omega (arith, putting_room x.n (lent x.packets.now) x.out.now c.loop-k.out c.loop-k.p k v (omega arith) c.text_at-t.result.now e, v.kept, c.requires.1)

pub overflow_add-p : goal.overflow_add-p
overflow_add-p c = let x = c.args in
    let v = c.loop-k.invariant in
    let k = c.loop-k.k in
    let e = c.text_at-t.ensures ∙ ap (λ (l : List ℕ). drop 4 (body_of l)) (c.requires.0.placed k (omega arith)) in
    omega (arith, putting_room x.n (lent x.packets.now) x.out.now c.loop-k.out c.loop-k.p k v (omega arith) c.text_at-t.result.now e, v.kept, c.requires.1)

pub loop-k-preserved : goal.loop-k-preserved
loop-k-preserved c = let x = c.args in
    let v = c.loop-k.invariant in
    let k = c.loop-k.k in
    let e = c.text_at-t.ensures ∙ ap (λ (l : List ℕ). drop 4 (body_of l)) (c.requires.0.placed k (omega arith)) in
    putting_next x.n (lent x.packets.now) x.out.now c.loop-k.out c.loop-k.p k v (omega arith) c.text_at-t.result.now e _ c.put_text.ensures

pub shape_of-out : goal.shape_of-out
shape_of-out c = c.loop-k.invariant.kept

pub returns : goal.returns
returns c = let x = c.args in
    putting_last x.n (lent x.packets.now) x.out.now _ c.loop-k.p c.loop-k.k c.loop-k.invariant (omega arith)
