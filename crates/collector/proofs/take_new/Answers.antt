-- `collector::take_new`: what its goals need. Assumes nothing.
use mathlib.Core.Path.{◌≡◌, ap₂, ◌∙◌}
use Prim.Native.Nat.{ℕ}
use native.Mathlib.Omega.{arith}
use lib.ListN.{length, length-map}
use Rattle.laws.proofs.Elements.{length_mapped}
use Rattle.collector.specs.declared.Place.{Place}
use Rattle.collector.proofs.AllPlaces.{all_held, some_free, is_not_held, take_free, take_full}
use Rattle.collector.specs.Collector.{index_of_free, kept}
use Rattle.collector.specs.Layout.{as_place, as_collector}
use Rattle.collector.proofs.Seen.{taken_there}
use borrow.Author.Rules.{rules}
use Rattle.collector.proofs.take_new.Goals as goal

pub keep_in-requires : goal.keep_in-requires
keep_in-requires c = let b = c in
    (b.requires.0, (taken_there b.args.x _ c.take.ensures).1, b.requires.1)

pub returns-in-Some : goal.returns-in-Some
unfolding index_of_free
returns-in-Some c = let b = c in
    let ps = b.args.c.places in
    let d = as_collector b.args.c in
    let x = b.args.x in
    let n : length ps ≡ 4 = search (rules, length_mapped) in
    let m = length-map ps as_place in
    let f = c.in-Some.ensures.0 in
    let none = is_not_held d.places x.heading.level x.heading.version (omega (arith, c.requires.2)) in record {
      result_value = c.keep_in.ensures.result_value
          ∙ ap₂ (λ (k : ℕ) (p : Place). kept d k p x) f (taken_there x _ c.take.ensures).0
          ∙ take_free d x none (some_free d.places (omega (arith, f, c.in-Some.ensures.1)));
      top = c.keep_in.ensures.top;
    }

pub returns-in-None : goal.returns-in-None
unfolding index_of_free
returns-in-None c = let b = c in
    let ps = b.args.c.places in
    let d = as_collector b.args.c in
    let x = b.args.x in
    let n : length ps ≡ 4 = search (rules, length_mapped) in
    let m = length-map ps as_place in
    let none = is_not_held d.places x.heading.level x.heading.version (omega (arith, c.requires.2)) in record {
      result_value = take_full d x none (all_held d.places (omega (arith, c.in-None.ensures)));
      top = b.requires.1;
    }
