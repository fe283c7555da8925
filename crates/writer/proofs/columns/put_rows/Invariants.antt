-- `writer::columns::put_rows`: what its goals need. Assumes nothing.
use Rattle.packet.specs.InCode.{lines_in}
use Rattle.writer.proofs.Beside.{Going}
use Rattle.writer.proofs.columns.put_rows.Given as goal

abbrev pub invariant-loop-j : goal.invariant-loop-j
invariant-loop-j l = Going l.initial.out l.p l.ts.bits l.n l.ts.numbers l.xs l.ts.m (lines_in l.ts) l.out l.q l.i l.j
