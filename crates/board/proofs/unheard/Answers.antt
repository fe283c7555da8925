-- `board::unheard`: what its goals need. Assumes nothing.
use mathlib.Core.Path.{refl}
use Rattle.stories.specs.Tales.{zeros}
use Rattle.board.proofs.unheard.Goals as goal

pub returns : goal.returns
unfolding zeros
returns c = refl
