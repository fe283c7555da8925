-- `air::total_for`: what its goals need. Assumes nothing.
use Rattle.air.specs.OnAir.{frames_for}
use mathlib.Core.Path.{refl}
use Rattle.air.proofs.total_for.Goals as goal

pub returns : goal.returns
unfolding frames_for
returns c = refl
