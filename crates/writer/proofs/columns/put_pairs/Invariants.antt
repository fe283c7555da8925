-- `writer::columns::put_pairs`: what its goals need. Assumes nothing.
use mathlib.Core.Path.{◌≡◌}
use Prim.Native.Nat.{◌+◌, ◌*◌}
use lib.ListN.{drop}
use lib.Seq.{sets}
use Rattle.laws.specs.Bits.{bits, spread}
use Rattle.writer.proofs.Beside.{piece}
use Rattle.writer.proofs.columns.put_pairs.Given as goal

abbrev pub invariant-loop-j : goal.invariant-loop-j
invariant-loop-j l = sets (bits l.initial.out) (l.k * 8) (spread 4 (piece l.m l.xs l.i)) ≡ sets (bits l.out) ((l.k + l.j) * 8) (spread 4 (drop (2 * l.j) (piece l.m l.xs l.i)))
