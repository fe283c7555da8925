-- `join::found::places`: what its goals need. Assumes nothing.
use mathlib.Core.Path.{◌∙◌}
use native.Mathlib.Omega.{arith}
use lib.ListN.{length-set}
use Rattle.join.proofs.Bodies.{placed_more}
use borrow.Author.Rules.{rules}
use Rattle.join.proofs.found.places.Goals as goal

pub loop-k-init : goal.loop-k-init
loop-k-init c = (λ k h. absurd (omega arith), search rules)

pub loop-k-preserved : goal.loop-k-preserved
loop-k-preserved c = let v = c.loop-k.invariant in
    let x = c.args in
    (placed_more x.n x.packets.now c.loop-k.at c.loop-k.k c.find.result (omega (arith, v.1, c.requires.0)) v.0 c.find.ensures, length-set c.loop-k.at c.loop-k.k c.find.result ∙ v.1)

pub returns : goal.returns
returns c = let v = c.loop-k.invariant in
    λ k h. v.0 k (omega arith)
