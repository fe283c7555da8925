-- `writer::fits::lines_fit`: what its goals need. Assumes nothing.
use mathlib.Core.Path.{◌≡◌}
use Prim.Native.Nat.{◌+◌}
use lib.ListN.{drop}
use Rattle.format.specs.Format.{need, fine, fill}
use Rattle.packet.specs.InCode.{lines_in}
use Rattle.writer.proofs.fits.lines_fit.Given as goal

abbrev pub invariant-loop-j : goal.invariant-loop-j
invariant-loop-j l = (need (lines_in l.ts) ≡ l.i + need (drop l.j (lines_in l.ts))) × (fine l.a (lines_in l.ts) (fill (lines_in l.ts) l.xs) ≡ fine l.a (drop l.j (lines_in l.ts)) (fill (drop l.j (lines_in l.ts)) (drop l.i l.xs)))
