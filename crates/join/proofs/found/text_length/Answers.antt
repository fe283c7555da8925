-- `join::found::text_length`: what its goals need. Assumes nothing.
use Rattle.join.proofs.Stepping.{nth, texts_first, text_small, long_next, long_end}
use Rattle.packet.specs.Reading.{body_of}
use Rattle.story.specs.Joining.{lent}
use lib.ListN.{length, drop}
use Prim.Native.Nat.{ℕ}
use native.Mathlib.Omega.{arith}
use mathlib.Core.List.{List}
use mathlib.Core.Path.{ap, ◌∙◌}
use borrow.Author.Rules.{rules}
use Rattle.join.proofs.found.text_length.Goals as goal

pub loop-k-init : goal.loop-k-init
loop-k-init c = let x = c.args in
    (omega (arith, ap length (texts_first x.n (lent x.packets.now))), omega arith)

pub offset_bounds-at-k : goal.offset_bounds-at-k
offset_bounds-at-k c = omega (arith, c.requires.few)

pub bounds-at-k : goal.bounds-at-k
bounds-at-k c = search (rules, c.requires.few, c.well_formed)

pub text_at-requires : goal.text_at-requires
text_at-requires c = c.requires.parts c.loop-k.k (omega arith)

pub overflow_add-sum : goal.overflow_add-sum
overflow_add-sum c = let x = c.args in
    let k = c.loop-k.k in
    let e = c.text_at.ensures ∙ ap (λ (l : List ℕ). drop 4 (body_of l)) (c.requires.placed k (omega arith)) in
    omega (arith, c.loop-k.invariant.1, c.requires.few, text_small (nth x.n (lent x.packets.now) k), ap length e)

pub loop-k-preserved : goal.loop-k-preserved
loop-k-preserved c = let x = c.args in
    let v = c.loop-k.invariant in
    let k = c.loop-k.k in
    let e = c.text_at.ensures ∙ ap (λ (l : List ℕ). drop 4 (body_of l)) (c.requires.placed k (omega arith)) in
    (long_next x.n (lent x.packets.now) k _ c.loop-k.sum c.text_at.result.now (omega arith) v.0 e, omega (arith, v.1, text_small (nth x.n (lent x.packets.now) k), ap length e))

pub returns : goal.returns
returns c = let x = c.args in
    long_end x.n (lent x.packets.now) c.loop-k.k _ c.loop-k.sum (omega arith) c.loop-k.invariant.0
