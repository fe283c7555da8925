-- `codec::refused`: what its goals need. Assumes nothing.
use Rattle.packet.specs.Reading.{no_fields, zeros}
use Rattle.codec.proofs.refused.Goals as goal

pub returns : goal.returns
unfolding no_fields zeros
returns c = rw c.content_told.ensures
