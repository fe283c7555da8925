-- The first eight less the last eight, exactly. Assumes nothing.
use mathlib.Core.Path.{◌∙◌, ap}
use lib.Ieee.{Float, sub, binary64}
use Rattle.samples.specs.Whole.{of_whole}
use Rattle.samples.specs.Symbol.{total}
use Rattle.samples.proofs.Steps.{part_is}
use Rattle.samples.proofs.difference.Goals as goal

pub returns : goal.returns
returns c = let d = c in
    let xs = d.args.symbol.now in
    ap (λ (x : Float). sub binary64 x c.sum_eight-late.result) c.sum_eight-early.ensures
    ∙ ap (λ (x : Float). sub binary64 (of_whole (total xs d.args.from 8)) x) c.sum_eight-late.ensures
    ∙ part_is xs d.args.from d.requires.t
