-- `collector::first_free`: what its goals need. Assumes nothing.
use Rattle.std.proofs.Common.{◌≡◌, length, rules, tests}
use Rattle.std.proofs.lemmas.Iterator.{YieldsList-from_slice}
use Rattle.std.proofs.lemmas.Iterator.Search.{position_from_yields_List}
use Rattle.laws.proofs.Positions.{found_seen}
use Rattle.collector.specs.Layout.{as_place}
use Rattle.collector.specs.Collector.{is_free, index_of_free}
use Rattle.collector.proofs.first_free.Goals as goal

pub returns : goal.returns
unfolding index_of_free
returns c =
    let ps = c.args.c.places in
    let n : length ps ≡ 4 = search rules in
    found_seen is_free as_place ps 4 c.position.result n
    (position_from_yields_List (λ p. is_free (as_place p)) _ _ _ c.position.ensures.ran (YieldsList-from_slice ps cc) (λ x b q k. search (rules, tests)))
