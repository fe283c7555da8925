-- `receiver::searching::mended_at`: what its goals need: each turn mends one block more. Assumes nothing.
use mathlib.Core.Path.{◌≡◌, refl}
use mathlib.Core.Bool.{true}
use native.Mathlib.Omega.{arith}
use Rattle.mend.specs.Mend.{Outcome, nothing}
use Rattle.receiver.proofs.Onward.{block_small, one_small}
use Rattle.receiver.proofs.Blocks.{outcome_at, wide, asked, count_few, none_yet, room, one_more, fail_at, done}
use Rattle.receiver.proofs.searching.mended_at.Goals as goal

pub loop-k-init : goal.loop-k-init
loop-k-init c = none_yet _ _

-- what the block at hand comes to: `asked`, with the two windows and what is left of them
pub returns-in_default : goal.returns-in_default
returns-in_default c = let a = c.args in
    let x = c.window-x.result in
    let y = c.window-y.result in
    let o : nothing ≡ outcome_at x y c.loop-k.k = asked x y c.rests-p.result c.rests-q.result (wide a.b.now _ x c.window-x.ensures) (wide a.b.now _ y c.window-y.ensures) c.rests-p.ensures c.rests-q.ensures c.loop-k.k _ _ nothing c.in_default.ensures c.block_at.ensures c.rest_at.ensures in
    fail_at a.b.now a.end a.from x y c.requires.0 c.requires.1 c.window-x.ensures c.window-y.ensures _ c.loop-k-test.true c.loop-k.invariant.found nothing o refl _ refl

pub overflow_add-words : goal.overflow_add-words
overflow_add-words c = let a = c.args in
    let x = c.window-x.result in
    let y = c.window-y.result in
    let u : Outcome = record { found = true; changed = c.in-Some.mended.changed; block = c.in-Some.mended.block } in
    let o : u ≡ outcome_at x y c.loop-k.k = asked x y c.rests-p.result c.rests-q.result (wide a.b.now _ x c.window-x.ensures) (wide a.b.now _ y c.window-y.ensures) c.rests-p.ensures c.rests-q.ensures c.loop-k.k _ _ u c.in-Some.ensures c.block_at.ensures c.rest_at.ensures in
    let l = room c.loop-k.words c.in-Some.mended.block (block_small u _ _ o refl) in
    omega arith

pub overflow_add-changed : goal.overflow_add-changed
overflow_add-changed c = omega (arith, count_few c.window-x.result c.window-y.result c.loop-k.k, c.loop-k.invariant.count, c.loop-k-test.true, one_small c.one-changed.result c.in-Some.mended.changed c.one-changed.ensures)

pub loop-k-preserved : goal.loop-k-preserved
loop-k-preserved c = let a = c.args in
    let x = c.window-x.result in
    let y = c.window-y.result in
    let u : Outcome = record { found = true; changed = c.in-Some.mended.changed; block = c.in-Some.mended.block } in
    let o : u ≡ outcome_at x y c.loop-k.k = asked x y c.rests-p.result c.rests-q.result (wide a.b.now _ x c.window-x.ensures) (wide a.b.now _ y c.window-y.ensures) c.rests-p.ensures c.rests-q.ensures c.loop-k.k _ _ u c.in-Some.ensures c.block_at.ensures c.rest_at.ensures in
    one_more c.loop-k.invariant c.loop-k-test.true u o refl _ c.one-changed.ensures

pub returns : goal.returns
returns c = let a = c.args in
    done a.b.now a.end a.from c.window-x.result c.window-y.result c.requires.0 c.requires.1 c.window-x.ensures c.window-y.ensures c.loop-k.invariant c.loop-k-test.false
