-- `join::found::places`: what its goals need. Assumes nothing.
use mathlib.Core.Path.{◌≡◌}
use lib.ListN.{length}
use Rattle.join.specs.Places.{Placed}
use Rattle.join.proofs.found.places.Given as goal

abbrev pub invariant-loop-k : goal.invariant-loop-k
invariant-loop-k l = Placed l.n l.packets l.at l.k × (length l.at ≡ 9)
