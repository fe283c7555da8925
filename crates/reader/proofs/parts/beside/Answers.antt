-- `reader::parts::beside`: what its goals need. Assumes nothing.
use mathlib.Core.Path.{refl}
use native.Mathlib.Omega.{arith}
use Rattle.packet.proofs.Loops.{every_few}
use Rattle.reader.proofs.parts.beside.Goals as goal

pub overflow_add-result : goal.overflow_add-result
overflow_add-result c = omega (arith, c.requires.0, c.requires.1.1, every_few)

pub overflow_sub-result : goal.overflow_sub-result
overflow_sub-result c = c.requires.0

pub returns : goal.returns
returns c = refl
