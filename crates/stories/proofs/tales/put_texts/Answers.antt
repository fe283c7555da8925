-- `stories::tales::put_texts`: what its goals need. Assumes nothing.
use mathlib.Core.Path.{◌≡◌}
use native.Mathlib.Omega.{arith}
use lib.ListN.{length}
use Rattle.stories.proofs.Texts.{putting_first, putting_next, putting_last, text_brief}
use borrow.Author.Rules.{rules}
use Rattle.stories.proofs.tales.put_texts.Goals as goal

pub loop-k-init : goal.loop-k-init
loop-k-init c = putting_first c.args.p c.args.out.now

pub put_text-to-requires : goal.put_text-to-requires
put_text-to-requires c =
    let v = c.loop-k.invariant in
    (omega (arith, c.requires.0.few), c.requires.0.short, omega (arith, c.requires.0.few, c.requires.1, v.room, v.kept))

pub loop-k-preserved : goal.loop-k-preserved
loop-k-preserved c =
    let v = c.loop-k.invariant in
    let x = c.args in
    let n : length x.p.lengths ≡ 9 = search (rules, c.well_formed) in
    putting_next x.p x.out.now c.loop-k.out _ c.loop-k.to c.loop-k.k c.put_text-to.result v (omega arith) (text_brief x.p c.loop-k.k c.requires.0.short (omega (arith, n, c.requires.0.few))) c.put_text-to.ensures.place c.put_text-to.ensures.output

pub returns : goal.returns
returns c =
    let all = putting_last c.args.p c.args.out.now _ c.loop-k.to c.loop-k.k c.loop-k.invariant (omega arith) in
    record { size = all.0; output = all.1 }
