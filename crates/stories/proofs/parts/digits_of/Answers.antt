-- `stories::parts::digits_of`: what its goals need. Assumes nothing.
use mathlib.Core.Path.{ap}
use Rattle.packet.specs.Reading.{Opened, no_fields, zeros}
use Rattle.stories.proofs.parts.digits_of.Goals as goal

pub returns-in-Ok : goal.returns-in-Ok
returns-in-Ok c = ap (λ (o : Opened). o.fields.digits) c.in-Ok.ensures

pub returns-in-Err : goal.returns-in-Err
unfolding no_fields zeros
returns-in-Err c = ap (λ (o : Opened). o.fields.digits) c.in-Err.ensures
