-- `story::with_last_four`: what its goals need. Assumes nothing.
use Rattle.story.proofs.Numbers.{last_four_set}
use mathlib.Core.Path.{◌≡◌}
use lib.ListN.{length}
use borrow.Author.Rules.{rules}
use Rattle.story.proofs.with_last_four.Goals as goal

pub returns : goal.returns
returns c = let n : length c.args.digits ≡ 35 = search (rules, c.well_formed) in
    last_four_set c.args.digits c.args.x n
