-- `reader::columns::width`: what its goals need. Assumes nothing.
use mathlib.Core.Path.{refl}
use native.Mathlib.Omega.{arith}
use Rattle.format.proofs.Sound.{sound_is}
use Rattle.reader.proofs.columns.width.Goals as goal

pub overflow_mul-result : goal.overflow_mul-result
overflow_mul-result c = let s = sound_is c.args.t c.requires in omega (arith, s.area)

pub returns : goal.returns
returns c = let s = sound_is c.args.t c.requires in (refl, s.area)
