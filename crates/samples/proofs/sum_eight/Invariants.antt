-- Each sum on the way is that of whole numbers. Assumes nothing.

use mathlib.Core.Path.{◌≡◌}
use Rattle.samples.specs.Whole.{of_whole}
use Rattle.samples.specs.Symbol.{total}
use Rattle.samples.proofs.sum_eight.Given as goal

abbrev pub invariant-loop-k : goal.invariant-loop-k
invariant-loop-k l = (l.sum ≡ of_whole (total l.symbol l.from l.k))
