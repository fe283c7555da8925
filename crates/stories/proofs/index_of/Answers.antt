-- `stories::index_of`: what its goals need. Assumes nothing.
use Rattle.std.proofs.Common.{◌≡◌, length, rules, tests}
use Rattle.std.proofs.lemmas.Iterator.{YieldsList-from_slice}
use Rattle.std.proofs.lemmas.Iterator.Search.{position_from_yields_List}
use Rattle.laws.proofs.Positions.{found_first}
use Rattle.stories.specs.Tales.{is_story}
use Rattle.stories.proofs.index_of.Goals as goal

pub returns : goal.returns
returns c =
    let ps = c.args.s.tales in
    let n : length ps ≡ 4 = search rules in
    found_first (is_story c.args.x) ps 4 c.position.result n
    (position_from_yields_List (is_story c.args.x) _ _ _ c.position.ensures.ran (YieldsList-from_slice ps cc) (λ x b q k. search (rules, tests)))
