-- `writer::puts::put_lines`: what its goals need. Assumes nothing.
use Rattle.packet.specs.InCode.{lines_in}
use Rattle.writer.proofs.Lines.{Going}
use Rattle.writer.proofs.puts.put_lines.Given as goal

abbrev pub invariant-loop-j : goal.invariant-loop-j
invariant-loop-j l = Going l.initial.out l.p l.xs l.ts.m (lines_in l.ts) l.out l.q l.i l.j
