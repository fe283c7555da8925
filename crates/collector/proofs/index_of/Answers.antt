-- `collector::index_of`: what its goals need. Assumes nothing.
use Rattle.std.proofs.Common.{◌≡◌, length, rules, tests}
use Rattle.std.proofs.lemmas.Iterator.{YieldsList-from_slice}
use Rattle.std.proofs.lemmas.Iterator.Search.{position_from_yields_List}
use Rattle.laws.proofs.Positions.{found_seen}
use Rattle.collector.specs.Places.{is_pair}
use Rattle.collector.specs.Layout.{as_place}
use Rattle.collector.specs.Collector.{index_of_pair}
use Rattle.collector.proofs.index_of.Goals as goal

pub returns : goal.returns
unfolding index_of_pair
returns c =
    let a = c.args in
    let ps = a.c.places in
    let n : length ps ≡ 4 = search rules in
    found_seen (is_pair a.level a.version) as_place ps 4 c.position.result n
    (position_from_yields_List (λ p. is_pair a.level a.version (as_place p)) _ _ _ c.position.ensures.ran (YieldsList-from_slice ps cc) (λ x b q k. search (rules, tests)))
