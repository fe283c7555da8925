-- `writer::columns::put_numbers`: what its goals need. Assumes nothing.
use Rattle.writer.proofs.Line.{Going}
use Rattle.writer.proofs.columns.put_numbers.Given as goal

abbrev pub invariant-loop-j : goal.invariant-loop-j
invariant-loop-j l = Going l.initial.out l.p l.t l.xs l.i l.out l.q l.j
