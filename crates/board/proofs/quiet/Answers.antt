-- `board::quiet`: what its goals need. Assumes nothing.
use mathlib.Core.Path.{ap₂}
use Rattle.collector.specs.declared.Holdings.{Holdings}
use Rattle.stories.specs.declared.Stories.{Stories}
use Rattle.board.proofs.quiet.Goals as goal

pub returns : goal.returns
returns c = ap₂ (λ (k : Holdings) (s : Stories). record { collector = k; stories = s }) c.empty.ensures c.none.ensures
