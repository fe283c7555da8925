-- `format::small`: what its goals need. Assumes nothing.
use Rattle.laws.proofs.Bits.{at_small}
use native.Mathlib.Omega.{arith}
use Rattle.format.proofs.small.Goals as goal

pub overflow_cast-result : goal.overflow_cast-result
overflow_cast-result c = let a = c.args in
    omega (arith, at_small a.b.now a.p a.w 8 (omega arith))
