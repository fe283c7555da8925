-- `print::put_hex`: what its goals need. Assumes nothing.
use Rattle.print.proofs.Laws.{Going}
use Rattle.print.proofs.put_hex.Given as goal

abbrev pub invariant-loop-i : goal.invariant-loop-i
invariant-loop-i l = Going l.frame l.initial.out l.out l.i
