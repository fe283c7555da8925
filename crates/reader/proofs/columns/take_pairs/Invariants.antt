-- `reader::columns::take_pairs`: what its goals need. Assumes nothing.
use mathlib.Core.Path.{◌≡◌}
use Prim.Native.Nat.{◌*◌, ◌≤◌}
use lib.Seq.{sets}
use lib.Dec.{eqb}
use Rattle.laws.specs.Bits.{bits, run}
use Rattle.format.specs.Format.{inside}
use Rattle.reader.proofs.columns.take_pairs.Given as goal

abbrev pub invariant-loop-j : goal.invariant-loop-j
invariant-loop-j l = (l.out ≡ sets l.initial.out l.to (run (bits l.b) (l.k * 8) (2 * l.j) 4)) × (eqb l.wrong 0 ≡ inside 0 9 (run (bits l.b) (l.k * 8) (2 * l.j) 4)) × (l.wrong ≤ 2 * l.j)
