-- Eight bytes, a byte a turn. Assumes nothing.
use mathlib.Core.Path.{◌≡◌, refl, ap, ◌∙◌}
use native.Mathlib.Omega.{arith}
use Rattle.samples.specs.Numbers.{word_at}
use Rattle.samples.proofs.Numbers.{word_more, word_next, word_room}
use Rattle.samples.proofs.word_at.Goals as goal

pub loop-k-init : goal.loop-k-init
unfolding word_at
loop-k-init c = (refl, omega arith)

pub overflow_mul-n : goal.overflow_mul-n
overflow_mul-n c = omega (arith, word_room c.loop-k.n c.loop-k.k c.loop-k.invariant.1 (omega arith))

pub overflow_add-n : goal.overflow_add-n
overflow_add-n c = let l = c.loop-k in
    omega (arith, c.byte.ensures.small, word_room l.n l.k l.invariant.1 (omega arith))

pub loop-k-preserved : goal.loop-k-preserved
loop-k-preserved c = let l = c.loop-k in
    let a = c.args in
    (word_next a.bytes.now a.at l.k l.n c.byte.result l.invariant.0 c.byte.ensures.value, word_more l.n c.byte.result l.k l.invariant.1 c.byte.ensures.small)

pub returns : goal.returns
returns c = let l = c.loop-k in
    let a = c.args in
    let h : l.k ≡ 8 = omega arith in
    l.invariant.0 ∙ ap (word_at a.bytes.now a.at) h
