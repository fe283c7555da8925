-- A NaN's pattern is told apart, and every other has its float. Assumes nothing.
use native.Mathlib.Omega.{arith}
use Rattle.samples.proofs.Numbers.{nan_made, no_nan}
use Rattle.samples.proofs.of_pattern.Goals as goal

pub returns-then-n-gt9218868437227405312 : goal.returns-then-n-gt9218868437227405312
returns-then-n-gt9218868437227405312 c = nan_made c.args.n (omega arith)

pub float_from_bits-result : goal.float_from_bits-result
float_from_bits-result c = no_nan c.args.n (omega arith)
