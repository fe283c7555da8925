-- `collector::begin_again`: what its goals need. Assumes nothing.
use mathlib.Core.Path.{sym, ap, ◌∙◌}
use Rattle.collector.specs.declared.Place.{Place}
use Rattle.collector.specs.Collector.{kept}
use Rattle.collector.proofs.AllPlaces.{begun_3, begun_else}
use Rattle.collector.specs.Layout.{as_collector, as_offered, left_by}
use Rattle.collector.specs.declared.Kept.TheVariants as pair
use Rattle.collector.proofs.Told.{is_kept, is_other}
use Rattle.collector.proofs.Seen.{taken_there}
use Rattle.collector.proofs.begin_again.Goals as goal

pub keep_in-o-requires : goal.keep_in-o-requires
keep_in-o-requires c = (c.requires.0, (taken_there c.args.x _ c.take.ensures).1, c.requires.1)

pub returns-then-eq : goal.returns-then-eq
returns-then-eq c = let a = c.args in
    let k = c.keep_in-o in
    let e = (taken_there a.x _ c.take.ensures).0 in record {
      result_value = begun_3 (as_collector a.c) a.i a.x (as_offered (left_by k.result)) (k.ensures.result_value ∙ ap (λ (p : Place). kept (as_collector a.c) a.i p a.x) e) (is_kept _ pair.Missing (sym c.eq.ensures ∙ c.if-eq.true));
      top = k.ensures.top;
    }

pub returns-else-eq : goal.returns-else-eq
returns-else-eq c = let a = c.args in
    let k = c.keep_in-o in
    let e = (taken_there a.x _ c.take.ensures).0 in record {
      result_value = begun_else (as_collector a.c) a.i a.x (as_offered (left_by k.result)) (k.ensures.result_value ∙ ap (λ (p : Place). kept (as_collector a.c) a.i p a.x) e) (is_other _ pair.Missing (sym c.eq.ensures ∙ c.if-eq.false));
      top = k.ensures.top;
    }
