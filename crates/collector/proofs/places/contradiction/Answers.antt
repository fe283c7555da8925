-- `collector::places::contradiction`: what its goals need. Assumes nothing.
use mathlib.Core.Path.{◌≡◌, sym, ◌∙◌}
use Rattle.laws.proofs.Cases.{if_yes, if_no}
use Rattle.collector.specs.Places.{state}
use Rattle.collector.proofs.OnePlace.{whole_is, not_whole}
use Rattle.collector.specs.declared.Kept.TheVariants as pair
use Rattle.collector.proofs.Told.{is_kept, is_other}
use Rattle.collector.specs.Layout.{as_place}
use Rattle.collector.proofs.places.contradiction.Goals as goal

pub returns-then-eq : goal.returns-then-eq
returns-then-eq c = sym (if_yes 15 3 (whole_is _ (sym c.state_of.ensures ∙ is_kept _ pair.Whole (sym c.eq.ensures ∙ c.if-eq.true))))

pub returns : goal.returns
returns c = let p = as_place c.args.p in
    sym (if_no 15 3 (not_whole p (λ (z : state p ≡ 1). is_other _ pair.Whole (sym c.eq.ensures ∙ c.if-eq.false) (c.state_of.ensures ∙ z))))
