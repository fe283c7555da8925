-- `reader::parts::zeros`: what its goals need. Assumes nothing.
use mathlib.Core.Path.{refl}
use Rattle.packet.specs.Reading.{zeros}
use Rattle.reader.proofs.parts.zeros.Goals as goal

pub returns : goal.returns
unfolding zeros
returns g c = refl
