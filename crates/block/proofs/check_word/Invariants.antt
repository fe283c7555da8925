-- `block::check_word`: what its goals need. The loop's invariant: the rest is what is left of the bits brought down so far. Assumes nothing.
use mathlib.Core.Path.{◌≡◌}
use Rattle.block.proofs.LongDivision.{rest_so_far}
use Rattle.block.proofs.check_word.Given as goal

abbrev pub invariant-loop-place : goal.invariant-loop-place
invariant-loop-place l = l.rest ≡ rest_so_far l.dividend l.place
