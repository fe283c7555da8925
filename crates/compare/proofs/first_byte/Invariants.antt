-- `compare::first_byte`: what its goals need. Assumes nothing.
use Rattle.compare.proofs.First.{Stands}
use Rattle.compare.proofs.first_byte.Given as goal

abbrev pub invariant-loop-i : goal.invariant-loop-i
invariant-loop-i l = Stands l.a l.b l.i
