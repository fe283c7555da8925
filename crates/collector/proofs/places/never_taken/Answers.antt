-- `collector::places::never_taken`: what its goals need. Assumes nothing.
use mathlib.Core.Path.{refl}
use Rattle.collector.specs.Layout.{number_of}
use Rattle.collector.proofs.places.never_taken.Goals as goal

pub returns : goal.returns
unfolding number_of
returns c = refl
