-- `writer::columns::rows_fit`: what its goals need. Assumes nothing.
use mathlib.Core.Path.{◌≡◌}
use Prim.Native.Nat.{◌+◌}
use lib.ListN.{drop}
use Rattle.format.specs.Format.{need, fine, fill, times}
use Rattle.packet.specs.InCode.{lines_in}
use Rattle.writer.proofs.ByColumn.{left}
use Rattle.writer.proofs.columns.rows_fit.Given as goal

abbrev pub invariant-loop-j : goal.invariant-loop-j
invariant-loop-j l = (l.ts.numbers ≡ l.i + need (drop l.j (lines_in l.ts))) × (fine l.a (times l.n (lines_in l.ts)) (fill (times l.n (lines_in l.ts)) l.xs) ≡ left l.a (lines_in l.ts) l.n l.ts.numbers l.xs l.i l.j)
