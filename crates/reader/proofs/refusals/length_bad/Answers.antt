-- `reader::refusals::length_bad`: what its goals need. Assumes nothing.
use mathlib.Core.Path.{refl}
use native.Mathlib.Omega.{arith}
use Rattle.reader.proofs.Whole as whole
use Rattle.reader.proofs.refusals.length_bad.Goals as goal

pub overflow_mul-result : goal.overflow_mul-result
overflow_mul-result c = omega (arith, whole.row_fits c.args.k c.args.z.each c.requires.3 c.requires.1)

pub overflow_add-result : goal.overflow_add-result
overflow_add-result c = omega (arith, whole.row_fits c.args.k c.args.z.each c.requires.3 c.requires.1, c.requires.0)

pub overflow_add-result-2 : goal.overflow_add-result-2
overflow_add-result-2 c = omega (arith, whole.row_fits c.args.k c.args.z.each c.requires.3 c.requires.1, c.requires.0, c.requires.2)

pub overflow_mul-result-2 : goal.overflow_mul-result-2
overflow_mul-result-2 c = omega (arith, c.requires.4)

pub returns : goal.returns
returns c = refl
