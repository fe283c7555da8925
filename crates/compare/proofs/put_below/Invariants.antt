-- `compare::put_below`: what its goals need. Assumes nothing.
use Rattle.compare.proofs.Going.{Going}
use Rattle.compare.proofs.put_below.Given as goal

abbrev pub invariant-loop-i : goal.invariant-loop-i
invariant-loop-i l = Going l.left l.right l.initial.out l.out l.so.at l.so.lines l.i
