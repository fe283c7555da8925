-- `collector::keep_in`: what its goals need. Assumes nothing.
use mathlib.Core.Path.{ap, ap₂, ◌∙◌}
use Prim.Native.Nat.{ℕ}
use Rattle.collector.specs.declared.Collector.{Collector}
use Rattle.collector.specs.declared.Place.{Place}
use Rattle.collector.specs.Places.{state}
use Rattle.collector.specs.Collector.{put, kept}
use Rattle.collector.specs.Layout.{as_collector}
use Rattle.collector.proofs.keep_in.Goals as goal

pub returns-clause-result_value : goal.returns-clause-result_value
unfolding kept
returns-clause-result_value c =
    let a = c.args in
    let e = c.store-q.ensures.result_value in
    ap₂ (λ (n : ℕ) (d : Collector). record { answer = n; collector = d }) (c.state_of.ensures ∙ ap state e) (c.put_place.ensures.result_value ∙ ap (λ (q : Place). put (as_collector a.c) a.i q) e)
