-- `radio::radio_decide`: what its goals need: the product beside a refusal is plus zero. Assumes nothing.
use mathlib.Core.Path.{ap}
use lib.Ieee.{of_bits, of_int}
use Rattle.radio.specs.Radio.{decided_as}
use Rattle.radio.proofs.radio_decide.Goals as goal

pub returns-in-Err : goal.returns-in-Err
unfolding of_bits of_int
returns-in-Err c = rw c.number.ensures (ap decided_as c.in-Err.ensures)
