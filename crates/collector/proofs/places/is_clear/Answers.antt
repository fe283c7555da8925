-- `collector::places::is_clear`: what its goals need. Assumes nothing.
use mathlib.Core.Path.{refl}
use Rattle.collector.proofs.places.is_clear.Goals as goal

pub returns : goal.returns
returns c = refl
