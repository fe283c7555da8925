-- `shelf::all_are`: what its goals need. Assumes nothing.
use mathlib.Core.Path.{refl, ap, sym, ◌∙◌}
use mathlib.Core.Bool.{◌&&◌}
use lib.Dec.{eqb}
use lib.ListN.{get_or}
use Rattle.std.proofs.lemmas.List.{take_all}
use Rattle.std.proofs.lemmas.List.Folds.{list_all_more}
use Rattle.laws.specs.Scan.{all}
use Rattle.shelf.proofs.all_are.Goals as goal

pub loop-x-init : goal.loop-x-init
loop-x-init c = refl

pub loop-x-preserved : goal.loop-x-preserved
loop-x-preserved c = let a = c.args in
    ap (λ b. b && eqb a.value (get_or a.b.now c.loop-x.x-index 0)) c.loop-x.invariant ∙ sym (list_all_more (eqb a.value) a.b.now c.loop-x.x-index 0 c.loop-x-test.true)

pub returns : goal.returns
returns c = let a = c.args in
    c.loop-x.invariant ∙ ap (all (eqb a.value)) (take_all c.loop-x.x-index a.b.now c.loop-x-test.false)
